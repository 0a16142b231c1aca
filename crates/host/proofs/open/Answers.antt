-- `host::open` meets its contract.
-- Assumes nothing.
use Rattle.host.proofs.Steps.{open_inside, open_is}
use Rattle.host.proofs.open.Goals as goal

pub opened-host-requires : goal.opened-host-requires
opened-host-requires c = open_inside _ _ _ _ c.open_answer-answer.ensures

pub returns : goal.returns
returns c = open_is _ _ _ _ _ _ c.open_answer-answer.ensures c.answer_numbers.ensures c.opened-host.ensures
