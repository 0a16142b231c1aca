-- `host::answers::register` meets its contract.
-- Assumes nothing.
use mathlib.Core.Path.{sym, ◌∙◌}
use Rattle.host.proofs.Steps.{mask_is, reset_is, not_writable, is_locked_out, value_wide, bit_differs, bits_kept}
use borrow.Author.Rules.{rules}
use Rattle.host.proofs.answers.register.Goals as goal

pub returns-then-mask-ge255 : goal.returns-then-mask-ge255
returns-then-mask-ge255 c =
    not_writable _ _ _ _
    (mask_is _ _ _ _ _ _ c.kind_at-kind.ensures c.lines.ensures.0 c.columns.ensures c.reserved_as-mask.ensures)
    c.if-mask-ge255.true

pub returns-then-lock_keeps : goal.returns-then-lock_keeps
returns-then-lock_keeps c =
    is_locked_out _ _ _ _
    (mask_is _ _ _ _ _ _ c.kind_at-kind.ensures c.lines.ensures.0 c.columns.ensures c.reserved_as-mask.ensures)
    c.if-mask-ge255.false (sym c.lock_keeps.ensures ∙ c.if-lock_keeps.true)

pub returns-then-value-gt255 : goal.returns-then-value-gt255
returns-then-value-gt255 c =
    value_wide _ _ _ _
    (mask_is _ _ _ _ _ _ c.kind_at-kind.ensures c.lines.ensures.0 c.columns.ensures c.reserved_as-mask.ensures)
    c.if-mask-ge255.false (sym c.lock_keeps.ensures ∙ c.if-lock_keeps.false) c.if-value-gt255.true

pub returns-then-value-mask : goal.returns-then-value-mask
returns-then-value-mask c =
    bits_kept _ _ _ _
    (mask_is _ _ _ _ _ _ c.kind_at-kind.ensures c.lines.ensures.0 c.columns.ensures c.reserved_as-mask.ensures)
    c.if-mask-ge255.false (sym c.lock_keeps.ensures ∙ c.if-lock_keeps.false) _ (search rules) (reset_is _ _ _ _ c.kind_at-kind.ensures c.reset_as-reset.ensures) c.if-value-mask.true

pub returns-else-value-mask : goal.returns-else-value-mask
returns-else-value-mask c =
    bit_differs _ _ _ _
    (mask_is _ _ _ _ _ _ c.kind_at-kind.ensures c.lines.ensures.0 c.columns.ensures c.reserved_as-mask.ensures)
    c.if-mask-ge255.false (sym c.lock_keeps.ensures ∙ c.if-lock_keeps.false) _ (search rules) (reset_is _ _ _ _ c.kind_at-kind.ensures c.reset_as-reset.ensures) c.if-value-mask.false
