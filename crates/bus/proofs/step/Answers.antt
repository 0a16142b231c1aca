-- A round as a bus call.
-- Assumes nothing.
use Rattle.bus.proofs.AtPlaces.{step_round}
use Rattle.bus.proofs.step.Goals as goal

pub returns-in-Round-clause-value : goal.returns-in-Round-clause-value
returns-in-Round-clause-value c = step_round c.args.panels c.args.request c.args.lent.now _ _ _ c.in-Round.is c.round-answer.ensures.value
