-- `player::running::keep` meets its contract: it stays as it is where there is no list, and where what is shown is too short for one.
-- Assumes nothing.
use Rattle.player.proofs.Steps.{keep_short, keep_put}
use Rattle.player.proofs.running.keep.Goals as goal

pub returns-in-Some : goal.returns-in-Some
returns-in-Some c = rw c.in-Some.is (keep_put c.args.player _ _ _ _ _ c.if-n-shown.true c.put_text-length.ensures)

pub returns-in_default : goal.returns-in_default
returns-in_default c = rw c.in-Some.is (keep_short c.args.player _ _ _ c.if-n-shown.false)
