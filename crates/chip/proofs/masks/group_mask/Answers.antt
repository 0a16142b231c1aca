-- `chip::masks::group_mask` meets its contract.
-- Assumes nothing.
use mathlib.Core.Path.{sym, ◌∙◌}
use borrow.Author.Tests.{eq-eqb, ne_eqb}
use Rattle.chip.proofs.Columns.{group_past, group_in}
use Rattle.chip.proofs.masks.group_mask.Goals as goal

pub returns-then-lines-x : goal.returns-then-lines-x
returns-then-lines-x c = group_past _ _ c.if-lines-x.true

pub returns-then-x-eq4 : goal.returns-then-x-eq4
returns-then-x-eq4 c = sym (simp (eq-eqb _ _ c.if-x-eq4.true)) ∙ group_in _ _ c.if-lines-x.false

pub returns-else-x-eq4 : goal.returns-else-x-eq4
returns-else-x-eq4 c = sym (simp (ne_eqb _ _ c.if-x-eq4.false)) ∙ group_in _ _ c.if-lines-x.false
