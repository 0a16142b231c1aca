-- `chip::at_reset` meets its contract.
-- Assumes nothing.
use Rattle.chip.proofs.Steps.{open_inside, at_reset_is}
use Rattle.chip.proofs.at_reset.Goals as goal

pub opened-chip-requires : goal.opened-chip-requires
opened-chip-requires c = open_inside _ _ _ _ c.open_answer-answer.ensures

pub returns : goal.returns
returns c = at_reset_is _ _ _ _ _ c.open_answer-answer.ensures c.opened-chip.ensures
