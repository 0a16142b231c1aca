-- `capi::lp586x_transaction` meets its contract.
-- Assumes nothing.
use mathlib.Core.Path.{sym, ◌∙◌}
use native.Mathlib.Omega.{arith}
use Rattle.capi.proofs.Listed.{place_small, walks_at, walks_bad, walks_none}
use Rattle.capi.proofs.lp586x_transaction.Goals as goal

pub overflow_cast-offset : goal.overflow_cast-offset
overflow_cast-offset c = omega (arith, place_small _ _ _ _ (sym c.transaction.ensures ∙ c.in-Ok.is))

pub overflow_cast-size : goal.overflow_cast-size
overflow_cast-size c = omega (arith, place_small _ _ _ _ (sym c.transaction.ensures ∙ c.in-Ok.is))

pub returns-in-Ok : goal.returns-in-Ok
returns-in-Ok c = let p = walks_at _ _ _ _ _ c.transaction.ensures _ _ c.in-Ok.is in record { value = p.0; offset_after = p.1.0; size_after = p.1.1 }

pub returns-in-Err-BadSizes : goal.returns-in-Err-BadSizes
returns-in-Err-BadSizes c = let p = walks_bad _ _ _ _ _ c.transaction.ensures _ (rw c.in-Err-BadSizes.field-0-is at c.in-Err-BadSizes.is) c.refusal_number.ensures in record { value = p.0; offset_after = p.1.0; size_after = p.1.1 }

pub returns-in-Err-NoIndex : goal.returns-in-Err-NoIndex
returns-in-Err-NoIndex c = let p = walks_none _ _ _ _ _ c.transaction.ensures _ (rw c.in-Err-NoIndex.field-0-is at c.in-Err-NoIndex.is) c.refusal_number-in-Err-NoIndex.ensures in record { value = p.0; offset_after = p.1.0; size_after = p.1.1 }
