-- `replies::put_differs` meets its contract.
-- Assumes nothing.
use Rattle.text.specs.TextLaws.{puts_then}
use Rattle.replies.proofs.put_differs.Goals as goal

pub returns : goal.returns
returns c = puts_then _ _ _ _ _ _ _ _ c.put_text-next.ensures c.put_address.ensures
