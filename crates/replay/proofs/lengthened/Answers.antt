-- `replay::lengthened` meets its contract.
-- Assumes nothing.
use Rattle.replay.proofs.Carrying.{carried}
use Rattle.replay.proofs.lengthened.Goals as goal

pub returns-clause-line_after : goal.returns-clause-line_after
returns-clause-line_after c = (carried _ _ _ _ _ c.requires c.put_text.ensures).0

pub returns-clause-within : goal.returns-clause-within
returns-clause-within c = (carried _ _ _ _ _ c.requires c.put_text.ensures).1
