-- `replies::put_lent` meets its contract.
-- Assumes nothing.
use Rattle.text.specs.TextLaws.{puts_then}
use Rattle.replies.specs.Replies.{lent_text}
use Rattle.replies.proofs.put_lent.Goals as goal

pub returns : goal.returns
unfolding lent_text
returns c = puts_then _ _ _ _ _ _ _ _ c.put-next.ensures c.put_bytes.ensures
