-- `player::asides::put` meets its contract.
-- Assumes nothing.
use Rattle.text.specs.TextLaws.{puts_then}
use Rattle.script.specs.LineLaws.{AsideFits}
use Rattle.player.specs.Play.{session_of, aside_line}
use Rattle.player.proofs.Steps.{puts_none}
use Rattle.player.proofs.asides.put.Goals as goal
use Rattle.player.proofs.asides.put.Goals.{in-Echo, in-Lamps, in-FaultMap, in-Diff, in-List}

pub put_fault_map-next-requires : goal.put_fault_map-next-requires
unfolding AsideFits
put_fault_map-next-requires c = rw c.in-FaultMap.is at c.requires

pub returns-in-Silent : goal.returns-in-Silent
unfolding aside_line
returns-in-Silent c = rw c.in-Silent.is (puts_none _ _)

pub returns : goal.returns
unfolding aside_line session_of
returns c =
    elim c.match-aside.branch [
      | in-Echo w ↦ rw w.in-Echo.is (puts_then _ _ _ _ _ _ _ _ w.put-next.ensures (rw (w.text-is, w.next-is) at c.put.ensures))
      | in-Lamps w ↦ rw (w.in-Lamps.is, ← c.current_session-session.ensures) (puts_then _ _ _ _ _ _ _ _ w.put_lamps-next.ensures (rw (w.text-is, w.next-is) at c.put.ensures))
      | in-FaultMap w ↦ rw (w.in-FaultMap.is, ← c.current_session-session.ensures) (puts_then _ _ _ _ _ _ _ _ w.put_fault_map-next.ensures (rw (w.text-is, w.next-is) at c.put.ensures))
      | in-Diff w ↦ rw (w.in-Diff.is, ← c.current_session-session.ensures) (puts_then _ _ _ _ _ _ _ _ w.put_differences-next.ensures (rw (w.text-is, w.next-is) at c.put.ensures))
      | in-List w ↦ rw w.in-List.is (puts_then _ _ _ _ _ _ _ _ w.put_list-next.ensures (rw (w.text-is, w.next-is) at c.put.ensures))
    ]
