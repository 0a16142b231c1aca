-- `chip::masks::switch_mask` meets its contract.
-- Assumes nothing.
use mathlib.Core.Path.{sym, ◌∙◌}
use borrow.Author.Tests.{eq-eqb, ne_eqb}
use Rattle.chip.proofs.Columns.{switch_past, switch_in}
use Rattle.chip.proofs.masks.switch_mask.Goals as goal

pub returns-then-lines-x : goal.returns-then-lines-x
returns-then-lines-x c = switch_past _ _ c.if-lines-x.true

pub returns-then-x-eq2 : goal.returns-then-x-eq2
returns-then-x-eq2 c = sym (simp (eq-eqb _ _ c.if-x-eq2.true)) ∙ switch_in _ _ c.if-lines-x.false

pub returns-else-x-eq2 : goal.returns-else-x-eq2
returns-else-x-eq2 c = sym (simp (ne_eqb _ _ c.if-x-eq2.false)) ∙ switch_in _ _ c.if-lines-x.false
