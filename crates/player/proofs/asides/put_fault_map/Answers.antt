-- `player::asides::put_fault_map` meets its contract.
-- Assumes nothing.
use mathlib.Core.Path.{sym}
use native.Mathlib.Omega.{arith}
use lib.Seq.{length-take-le}
use Rattle.text.specs.TextLaws.{puts_as}
use Rattle.player.proofs.Steps.{map_read, map_refused}
use Rattle.player.proofs.asides.put_fault_map.Goals as goal

pub slice_bounds-faults-end : goal.slice_bounds-faults-end
slice_bounds-faults-end c = sym (length-take-le _ _ (omega (arith, c.decode-n.ensures.0, c.decode-n.auto.buffer)))

pub returns-in-Ok : goal.returns-in-Ok
returns-in-Ok c =
    puts_as _ _ _ _ _ _ (map_read _ _ _ _ _ c.decode-n.ensures.1 c.faults.ensures.value c.faults.ensures.result_after _ c.in-Ok.is)
    c.put_faults.ensures

pub returns-in-Err : goal.returns-in-Err
returns-in-Err c =
    puts_as _ _ _ _ _ _ (rw c.refusal_number.ensures (map_refused _ _ _ _ _ c.decode-n.ensures.1 c.faults.ensures.value c.faults.ensures.result_after _ c.in-Err.is))
    c.put_decimal.ensures
