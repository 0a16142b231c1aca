-- `replies::put_value` meets its contract.
-- Assumes nothing.
use Rattle.text.specs.TextLaws.{puts_then}
use Rattle.replies.specs.Replies.{value_text}
use Rattle.replies.proofs.put_value.Goals as goal

pub returns : goal.returns
unfolding value_text
returns c = puts_then _ _ _ _ _ _ _ _ c.put-next.ensures c.put_decimal.ensures
