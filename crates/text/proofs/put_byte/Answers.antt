-- `text::put_byte` meets its contract.
-- Assumes nothing.
use Rattle.text.proofs.Steps.{byte_put}
use Rattle.text.proofs.put_byte.Goals as goal

pub returns : goal.returns
returns c = byte_put _ _ _ _ _ _ _ _ _ c.digit_of.ensures c.put-next.ensures c.digit_of-2.ensures c.put.ensures
