-- `listing::put_transactions` meets its contract.
-- Assumes nothing.
use native.Mathlib.Omega.{arith}
use Rattle.listing.proofs.Steps.{shown_none, shown_next, shown_more, shown_all}
use Rattle.listing.proofs.put_transactions.Goals as goal

pub loop-i-init : goal.loop-i-init
loop-i-init c = shown_none _ _ _ _ _ _ c.requires.1

pub put_transaction-next-requires : goal.put_transaction-next-requires
put_transaction-next-requires c = shown_next _ _ _ _ _ _ _ _ _ _ c.loop-i.invariant _ c.loop-i-test.true c.size_at-size.ensures

pub overflow_add-from-in-loop-i : goal.overflow_add-from-in-loop-i
overflow_add-from-in-loop-i c =
    let next =
    shown_next _ _ _ _ _ _ _ _ _ _ c.loop-i.invariant _
    c.loop-i-test.true c.size_at-size.ensures in
    omega (arith, next.1)

pub loop-i-preserved : goal.loop-i-preserved
loop-i-preserved c = shown_more _ _ _ _ _ _ _ _ _ _ c.loop-i.invariant _ c.loop-i-test.true c.size_at-size.ensures _ _ c.put_transaction-next.ensures

pub shape_of-text : goal.shape_of-text
shape_of-text c = c.loop-i.invariant.same

pub returns : goal.returns
returns c = shown_all _ _ _ _ _ _ _ _ _ _ c.loop-i.invariant c.loop-i-test.false
