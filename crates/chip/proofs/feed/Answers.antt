-- `chip::feed` meets its contract.
-- Assumes nothing.
use Rattle.chip.proofs.Steps.{fed_is}
use Rattle.chip.proofs.feed.Goals as goal

pub returns : goal.returns
returns c = fed_is _ _ _ _ c.feed_registers-answer.ensures.answers c.feed_registers-answer.ensures.stores
