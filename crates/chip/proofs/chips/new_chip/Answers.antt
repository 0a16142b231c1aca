-- `chip::chips::new_chip` meets its contract.
-- Assumes nothing.
use Rattle.chip.proofs.Steps.{new_is}
use Rattle.chip.proofs.chips.new_chip.Goals as goal

pub returns : goal.returns
returns c = new_is _ _ _ _ c.reset_image.ensures
