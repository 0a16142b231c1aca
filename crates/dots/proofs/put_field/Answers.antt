-- `dots::put_field` meets its contract.
-- Assumes nothing.
use mathlib.Core.Path.{refl}
use Rattle.dots.proofs.Steps.{no_dot, at_place, place_fits, field_put}
use borrow.Author.Rules.{rules}
use Rattle.dots.proofs.put_field.Goals as goal

pub returns-in_default : goal.returns-in_default
returns-in_default c = rw (no_dot _ _ _ _ _ c.place_of.ensures c.in_default.is) refl

pub put_bits-requires : goal.put_bits-requires
put_bits-requires c = place_fits _ _ _ _ _ _ (at_place _ _ _ _ _ c.place_of.ensures _ _ c.in-Some.is)

pub returns : goal.returns
returns c =
    let at = at_place _ _ _ _ _ c.place_of.ensures _ _ c.in-Some.is in
    field_put _ _ _ _ _ _ at _ _ c.byte_at-byte.ensures (search rules) _ _ _ (search rules) c.put_bits.ensures c.put_byte.ensures
