-- `text::put_address` meets its contract.
-- Assumes nothing.
use Rattle.text.proofs.Steps.{address_put}
use Rattle.text.proofs.put_address.Goals as goal

pub returns : goal.returns
returns c = address_put _ _ _ _ _ _ _ _ c.digit_of.ensures c.put-next.ensures c.put_byte.ensures
