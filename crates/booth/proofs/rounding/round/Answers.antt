-- The bus call, and its panels in their sessions.
-- Assumes nothing.
use Rattle.booth.proofs.Steps.{rounded}
use Rattle.booth.proofs.rounding.round.Goals as goal

pub returns-clause-value : goal.returns-clause-value
returns-clause-value c =
    (rounded _ _ _ _ _ _ _ _ _ _ c.present_by.ensures c.panels_of.ensures c.step-answer.ensures.value c.step-answer.ensures.lent_after
    c.call_numbers.ensures c.with_panels.ensures).0

pub returns-clause-buffer_after : goal.returns-clause-buffer_after
returns-clause-buffer_after c =
    (rounded _ _ _ _ _ _ _ _ _ _ c.present_by.ensures c.panels_of.ensures c.step-answer.ensures.value c.step-answer.ensures.lent_after
    c.call_numbers.ensures c.with_panels.ensures).1
