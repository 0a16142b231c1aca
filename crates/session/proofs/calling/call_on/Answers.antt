-- `session::calling::call_on` meets its contract.
-- Assumes nothing.
use Rattle.session.proofs.Effects.{call_does}
use borrow.Author.Rules.{rules}
use Rattle.session.proofs.calling.call_on.Goals as goal

pub returns : goal.returns
returns c = call_does _ _ _ _ _ _ _ _ _ c.step-after.ensures c.answers_locked-locked.ensures (search rules) c.stepped.ensures
