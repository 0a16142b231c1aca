-- `chip::power_lost` meets its contract.
-- Assumes nothing.
use Rattle.chip.proofs.Steps.{lost_is}
use borrow.Author.Rules.{rules}
use Rattle.chip.proofs.power_lost.Goals as goal

pub returns : goal.returns
returns c = lost_is _ _ (search rules) c.lose_power.ensures
