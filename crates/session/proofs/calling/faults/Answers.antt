-- `session::calling::faults` meets its contract.
-- Assumes nothing.
use Rattle.session.proofs.Effects.{faults_does}
use Rattle.session.proofs.calling.faults.Goals as goal

pub returns : goal.returns
returns c =
    faults_does _ _ _ c.requires.1 c.requires.2 c.faults-answer.auto.res _ _ _ _ _ _
    c.decode-n.ensures.1 c.faults-answer.ensures.value c.faults-answer.ensures.result_after c.answer_numbers.ensures c.answered.ensures
