-- `player::asides::put_list` meets its contract.
-- Assumes nothing.
use Rattle.player.specs.Play.{last_list_text}
use Rattle.player.proofs.asides.put_list.Goals as goal

pub returns-in-Some : goal.returns-in-Some
unfolding last_list_text
returns-in-Some c = rw (c.in-Some.is, ← c.min.ensures) c.put_list.ensures

pub returns-in-None : goal.returns-in-None
unfolding last_list_text
returns-in-None c = rw c.in-None.is c.put.ensures
