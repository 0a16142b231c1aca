-- `replies::put_reply` meets its contract.
-- Assumes nothing.
use Rattle.replies.specs.Replies.{reply_text}
use Rattle.text.specs.TextLaws.{puts_then}
use Rattle.replies.proofs.put_reply.Goals as goal

pub returns-in-Lent : goal.returns-in-Lent
unfolding reply_text
returns-in-Lent c = rw c.in-Lent.is (puts_then _ _ _ _ _ _ _ _ c.put_numbers-next.ensures c.put_lent.ensures)
