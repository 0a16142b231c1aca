-- `chip::lists::apply_all` meets its contract.
-- Assumes nothing.
use native.Mathlib.Omega.{arith}
use Rattle.chip.proofs.Steps.{applied_none, applied_next, applied_more, applied_all}
use Rattle.chip.proofs.lists.apply_all.Goals as goal

pub loop-i-init : goal.loop-i-init
loop-i-init c = applied_none _ _ _ _ _ _ c.requires.1

pub overflow_add-at-in-loop-i : goal.overflow_add-at-in-loop-i
overflow_add-at-in-loop-i c =
    omega (arith, (applied_next _ _ _ _ _ _ _ _ _ c.loop-i.invariant _ c.loop-i-test.true c.size_at-size.ensures).1)

pub slice_bounds-apply_one-end : goal.slice_bounds-apply_one-end
slice_bounds-apply_one-end c = (applied_next _ _ _ _ _ _ _ _ _ c.loop-i.invariant _ c.loop-i-test.true c.size_at-size.ensures).1

pub apply_one-requires : goal.apply_one-requires
apply_one-requires c = (applied_next _ _ _ _ _ _ _ _ _ c.loop-i.invariant _ c.loop-i-test.true c.size_at-size.ensures).0

pub loop-i-preserved : goal.loop-i-preserved
loop-i-preserved c = applied_more _ _ _ _ _ _ _ _ _ c.loop-i.invariant _ _ c.loop-i-test.true c.size_at-size.ensures c.apply_one.ensures

pub returns : goal.returns
returns c = rw c.member_of-member.ensures at (applied_all _ _ _ _ _ _ _ _ _ c.loop-i.invariant c.loop-i-test.false)
