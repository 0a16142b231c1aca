-- `text::put_each` meets its contract: the items before the index are put, whatever text `put_one` puts for each.
-- Assumes nothing.
use Rattle.std.proofs.Common.{ℕ, List}
use Rattle.text.specs.Text.{PutsOne}
use Rattle.text.proofs.Steps.{Each}
use Rattle.text.proofs.put_each.Given as goal

abbrev pub invariant-loop-item : goal.invariant-loop-item
invariant-loop-item g l = (shape : _ → List ℕ) → PutsOne (goal.F-post g l.put_one) (λ t. t.now) shape → Each shape l.initial.text l.at l.items l.text l.next l.item-index
