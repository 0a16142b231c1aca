-- `dots::field` meets its contract.
-- Assumes nothing.
use mathlib.Core.Path.{refl}
use native.Mathlib.Omega.{arith}
use Rattle.dots.proofs.Steps.{no_dot, at_place, shift_small, place_fits, field_read}
use borrow.Author.Rules.{rules}
use Rattle.dots.proofs.field.Goals as goal

pub returns-in_default : goal.returns-in_default
returns-in_default c = rw (no_dot _ _ _ _ _ c.place_of.ensures c.in_default.is) refl

pub overflow_cast-result : goal.overflow_cast-result
overflow_cast-result c = omega (arith, shift_small _ _ (place_fits _ _ _ _ _ _ (at_place _ _ _ _ _ c.place_of.ensures _ _ c.in-Some.is)))

pub overflow_shr-result : goal.overflow_shr-result
overflow_shr-result c = shift_small _ _ (place_fits _ _ _ _ _ _ (at_place _ _ _ _ _ c.place_of.ensures _ _ c.in-Some.is))

pub returns : goal.returns
returns c =
    let at = at_place _ _ _ _ _ c.place_of.ensures _ _ c.in-Some.is in
    field_read _ _ _ _ _ _ at _ _ c.byte_at.ensures (search rules) _ c.mask_of.ensures
