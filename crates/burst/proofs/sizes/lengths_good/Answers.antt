use native.Mathlib.Omega.{arith}
use Rattle.burst.specs.BurstLaws.{size_read}
use Rattle.burst.proofs.Steps.{counted_none, counted_more, counted_fails, counted_all}
use Rattle.burst.proofs.sizes.lengths_good.Goals as goal

pub loop-i-init : goal.loop-i-init
loop-i-init c = counted_none _ _

pub returns-then-length-lt3 : goal.returns-then-length-lt3
returns-then-length-lt3 c =
    counted_fails _ _ _ _ c.size_at-length.result _ c.loop-i-test.true c.size_at-length.ensures (omega arith)
    c.loop-i.invariant

pub overflow_add-sum : goal.overflow_add-sum
overflow_add-sum c = omega (arith, size_read _ _ _ c.size_at-length.ensures)

pub loop-i-preserved : goal.loop-i-preserved
loop-i-preserved c =
    counted_more _ _ _ _ c.size_at-length.result c.loop-i-test.true c.size_at-length.ensures (omega arith)
    c.loop-i.invariant

pub returns : goal.returns
returns c = counted_all _ _ _ _ _ c.loop-i-test.false c.loop-i.invariant
