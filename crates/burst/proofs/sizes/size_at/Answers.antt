use mathlib.Core.Path.{sym}
use native.Mathlib.Omega.{arith}
use Rattle.burst.specs.Burst.{size16}
use Rattle.burst.specs.BurstLaws.{byte_read, size_past}
use Rattle.burst.proofs.sizes.size_at.Goals as goal

pub returns-then-list-at : goal.returns-then-list-at
returns-then-list-at c = sym (size_past _ _ c.if-list-at.true)

pub overflow_mul-result : goal.overflow_mul-result
overflow_mul-result c = omega (arith, byte_read _ _ _ c.byte_at.ensures, byte_read _ _ _ c.byte_at-2.ensures)

pub overflow_add-result : goal.overflow_add-result
overflow_add-result c = omega (arith, byte_read _ _ _ c.byte_at.ensures, byte_read _ _ _ c.byte_at-2.ensures)

pub returns : goal.returns
unfolding size16
returns c = simp (c.byte_at.ensures, c.byte_at-2.ensures)
