-- `replies::put_line` meets its contract.
-- Assumes nothing.
use Rattle.replies.specs.Replies.{reply_line}
use Rattle.text.specs.TextLaws.{puts_then}
use Rattle.replies.proofs.put_line.Goals as goal

pub returns : goal.returns
unfolding reply_line
returns c = puts_then _ _ _ _ _ _ _ _ c.put_reply-end.ensures c.put.ensures
