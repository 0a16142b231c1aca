-- `chip::masks::low_mask` meets its contract.
-- Assumes nothing.
use native.Mathlib.Omega.{arith}
use Rattle.map.specs.MapLaws.{lines_most}
use Rattle.chip.proofs.Columns.{mask_first, mask_group, mask_switch, mask_middle, mask_every_group, mask_every_switch}
use Rattle.chip.proofs.masks.low_mask.Goals as goal

pub returns-then-address-ge100 : goal.returns-then-address-ge100
returns-then-address-ge100 c = mask_middle _ _ c.if-address-ge100.true c.requires

pub returns-then-address-lt12 : goal.returns-then-address-lt12
returns-then-address-lt12 c = mask_first _ _ _ _ _ c.args.member.its_lines c.args.member.its_columns c.reserved_as.ensures c.if-address-lt12.true

pub group_mask-requires : goal.group_mask-requires
group_mask-requires c = omega (arith, lines_most c.args.member.code, c.args.member.its_lines)

pub returns-then-member-eq-EVERY_COLUMN : goal.returns-then-member-eq-EVERY_COLUMN
returns-then-member-eq-EVERY_COLUMN c =
    mask_every_group _ _ _ _ _ c.args.member.its_lines c.args.member.its_columns c.if-member-eq-EVERY_COLUMN.true
    c.group_mask.ensures c.if-address-lt12.false c.if-address-lt67.true

pub returns-then-address-lt67 : goal.returns-then-address-lt67
returns-then-address-lt67 c =
    mask_group _ _ _ _ _ c.args.member.its_lines c.args.member.its_columns c.reserved_as-then-address-lt67.ensures
    c.if-address-lt12.false c.if-address-lt67.true

pub switch_mask-requires : goal.switch_mask-requires
switch_mask-requires c = omega (arith, lines_most c.args.member.code, c.args.member.its_lines)

pub returns-then-member-eq-EVERY_COLUMN-2 : goal.returns-then-member-eq-EVERY_COLUMN-2
returns-then-member-eq-EVERY_COLUMN-2 c =
    mask_every_switch _ _ _ _ _ c.args.member.its_lines c.args.member.its_columns c.if-member-eq-EVERY_COLUMN-2.true
    c.switch_mask.ensures c.if-address-lt67.false (omega arith)

pub returns : goal.returns
returns c =
    mask_switch _ _ _ _ _ c.args.member.its_lines c.args.member.its_columns c.reserved_as-2.ensures
    c.if-address-lt67.false (omega arith)
