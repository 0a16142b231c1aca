-- `chip::masks::dot_mask` meets its contract.
-- Assumes nothing.
use native.Mathlib.Omega.{arith}
use Rattle.map.specs.MapLaws.{lines_most}
use Rattle.chip.proofs.Columns.{mask_current, mask_pwm, mask_every_current, mask_every_pwm}
use Rattle.chip.proofs.masks.dot_mask.Goals as goal

pub overflow_mul-member : goal.overflow_mul-member
overflow_mul-member c = omega (arith, lines_most c.args.member.code, c.args.member.its_lines)

pub overflow_add-member : goal.overflow_add-member
overflow_add-member c = omega (arith, lines_most c.args.member.code, c.args.member.its_lines)

pub returns-then-member-eq-EVERY_COLUMN : goal.returns-then-member-eq-EVERY_COLUMN
returns-then-member-eq-EVERY_COLUMN c =
    mask_every_current _ _ _ _ _ c.args.member.its_lines c.args.member.its_columns c.if-member-eq-EVERY_COLUMN.true c.from_end.ensures
    c.requires c.if-address-lt512.true

pub returns-then-address-lt512 : goal.returns-then-address-lt512
returns-then-address-lt512 c =
    mask_current _ _ _ _ _ c.args.member.its_lines c.args.member.its_columns c.reserved_as.ensures
    c.requires c.if-address-lt512.true

pub overflow_mul-member-then-member-eq-EVERY_COLUMN-2 : goal.overflow_mul-member-then-member-eq-EVERY_COLUMN-2
overflow_mul-member-then-member-eq-EVERY_COLUMN-2 c = omega (arith, lines_most c.args.member.code, c.args.member.its_lines)

pub overflow_add-member-then-member-eq-EVERY_COLUMN-2 : goal.overflow_add-member-then-member-eq-EVERY_COLUMN-2
overflow_add-member-then-member-eq-EVERY_COLUMN-2 c = omega (arith, lines_most c.args.member.code, c.args.member.its_lines)

pub returns-then-member-eq-EVERY_COLUMN-2 : goal.returns-then-member-eq-EVERY_COLUMN-2
returns-then-member-eq-EVERY_COLUMN-2 c =
    mask_every_pwm _ _ _ _ _ c.args.member.its_lines c.args.member.its_columns c.if-member-eq-EVERY_COLUMN-2.true c.from_end-then-member-eq-EVERY_COLUMN-2.ensures
    c.if-address-lt512.false

pub returns : goal.returns
returns c = mask_pwm _ _ _ _ _ c.args.member.its_lines c.args.member.its_columns c.reserved_as-2.ensures c.if-address-lt512.false
