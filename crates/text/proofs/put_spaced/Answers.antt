-- `text::put_spaced` meets its contract.
-- Assumes nothing.
use Rattle.text.proofs.Steps.{spaced_put}
use Rattle.text.proofs.put_spaced.Goals as goal

pub returns : goal.returns
returns c = spaced_put _ _ _ _ _ _ _ c.put-next.ensures c.put_byte.ensures
