-- `writes::storing::store_list` meets its contract.
-- Assumes nothing.
use native.Mathlib.Omega.{arith}
use Rattle.burst.specs.BurstLaws.{size_read}
use Rattle.writes.proofs.ListStored.{storing_none, place_small, storing_more, all_stored}
use Rattle.writes.proofs.storing.store_list.Goals as goal

pub overflow_mul-from : goal.overflow_mul-from
overflow_mul-from c = omega (arith, size_read _ _ _ c.size_at-n.ensures)

pub overflow_add-from : goal.overflow_add-from
overflow_add-from c = omega (arith, size_read _ _ _ c.size_at-n.ensures)

pub loop-i-init : goal.loop-i-init
loop-i-init c = storing_none _ _ _ _ c.size_at-n.ensures

pub overflow_mul-i : goal.overflow_mul-i
overflow_mul-i c = omega (arith, c.loop-i.invariant.few)

pub overflow_add-i : goal.overflow_add-i
overflow_add-i c = omega (arith, c.loop-i.invariant.few)

pub store_transaction-stored-requires : goal.store_transaction-stored-requires
store_transaction-stored-requires c = (place_small _ _ _ _ _ _ _ _ c.loop-i.invariant c.loop-i-test.true _ c.size_at-size.ensures, size_read _ _ _ c.size_at-size.ensures)

pub overflow_add-stored : goal.overflow_add-stored
overflow_add-stored c = omega (arith, c.loop-i.invariant.most, c.loop-i.invariant.few, c.store_transaction-stored.ensures.within, size_read _ _ _ c.size_at-size.ensures)

pub overflow_add-from-in-loop-i : goal.overflow_add-from-in-loop-i
overflow_add-from-in-loop-i c = omega (arith, c.loop-i.invariant.place, c.loop-i.invariant.few, size_read _ _ _ c.size_at-size.ensures)

pub loop-i-preserved : goal.loop-i-preserved
loop-i-preserved c =
    storing_more _ _ _ _ _ _ _ _ c.loop-i.invariant c.loop-i-test.true _ c.size_at-size.ensures _ _ c.store_transaction-stored.auto.image
    c.store_transaction-stored.ensures.within c.store_transaction-stored.ensures.value

pub shape_of-image : goal.shape_of-image
shape_of-image c = c.loop-i.invariant.same

pub returns : goal.returns
returns c = all_stored _ _ _ _ _ _ _ _ c.loop-i.invariant c.loop-i-test.false
