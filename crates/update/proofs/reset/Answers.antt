-- `update::reset` meets its contract.
-- Assumes nothing.
use native.Mathlib.Omega.{arith}
use Rattle.std.proofs.Common.{sym, ap, ◌∙◌, length}
use Rattle.host.specs.declared.Record.{Record}
use Rattle.update.specs.Update.{reset_answer}
use Rattle.update.proofs.Fixed.{reset_is, reset_not}
use Rattle.update.proofs.reset.Goals as goal

pub returns-then-is_ok-clause-value : goal.returns-then-is_ok-clause-value
returns-then-is_ok-clause-value c =
    reset_is _ _ _ (c.reset_parts-answer.ensures.value ∙ ap (λ (x : Record). reset_answer x (length c.args.buffer.now)) c.lent.ensures) (sym c.is_ok.ensures.value ∙ c.if-is_ok.true) (omega arith) _ c.with_marks-r.ensures _ c.put_reset.ensures

pub returns-else-is_ok-clause-value : goal.returns-else-is_ok-clause-value
returns-else-is_ok-clause-value c = reset_not _ _ _ (c.reset_parts-answer.ensures.value ∙ ap (λ (x : Record). reset_answer x (length c.args.buffer.now)) c.lent.ensures) (sym c.is_ok.ensures.value ∙ c.if-is_ok.false)
