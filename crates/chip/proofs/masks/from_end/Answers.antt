-- `chip::masks::from_end` meets its contract.
-- Assumes nothing.
use borrow.Author.Tests.{lt-ltb, le-ltb}
use Rattle.chip.proofs.masks.from_end.Goals as goal

pub returns-then-address-end : goal.returns-then-address-end
returns-then-address-end c = simp (lt-ltb _ _ c.if-address-end.true)

pub returns-else-address-end : goal.returns-else-address-end
returns-else-address-end c = simp (le-ltb _ _ c.if-address-end.false)
