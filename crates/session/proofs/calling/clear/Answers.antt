-- `session::calling::clear` meets its contract.
-- Assumes nothing.
use Rattle.session.proofs.Effects.{clear_does}
use Rattle.session.proofs.calling.clear.Goals as goal

pub returns : goal.returns
returns c = clear_does _ _ _ c.requires.0 c.requires.1 c.clear-after.auto.buffer _ _ _ _ c.clear-after.ensures c.stepped.ensures
