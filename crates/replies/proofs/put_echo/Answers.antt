-- `replies::put_echo` meets its contract.
-- Assumes nothing.
use Rattle.text.specs.TextLaws.{puts_then}
use Rattle.replies.specs.Replies.{echo_line}
use Rattle.replies.proofs.put_echo.Goals as goal

pub returns : goal.returns
unfolding echo_line
returns c =
    puts_then _ _ _ _ _ _ _ _ c.put_decimal-next.ensures
    (puts_then _ _ _ _ _ _ _ _ c.put-next.ensures (puts_then _ _ _ _ _ _ _ _ c.put_text-next.ensures c.put.ensures))
