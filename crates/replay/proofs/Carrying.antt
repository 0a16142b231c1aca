-- The line so far, as its buffer carries it: what is put behind it stands behind it, as far as the buffer has room.
-- Assumes nothing.
use Rattle.std.proofs.Common.{◌≡◌, refl, sym, ap, ◌∙◌, Bool, true, false, ltb, List, [], ◌∷◌, ◌++◌, append_assoc, append-nil, ℕ, suc, ◌<◌, ◌≤◌, length, set, take, arith, length-set, take-suc-set, length-take-le}
use Rattle.std.proofs.Math.Seq.{set_out}
use Rattle.std.proofs.lemmas.Bool.{ltb-true, ltb-false}
use Rattle.std.proofs.lemmas.List.{take-append-le, take_all}
use Rattle.text.specs.Text.{next_place, placed, place_after, Puts}
use Rattle.text.specs.TextLaws.{next_inside, next_behind, puts_inside}

placed_front : (buffer : List ℕ) (at : ℕ) (xs : List ℕ) → at ≤ length buffer →
    take (place_after (length buffer) at xs) (placed buffer at xs) ≡ take (length buffer) (take at buffer ++ xs)
unfolding placed place_after
placed_front buffer at [] h =
    sym (rw append-nil (take_all (length buffer) (take at buffer) (omega (arith, length-take-le at buffer h))))
placed_front buffer at (x ∷ xs) h = go (ltb at (length buffer)) refl (placed_front (set buffer at x) (suc at) xs) (placed_front buffer at xs h)
  where
    go : (t : Bool) → ltb at (length buffer) ≡ t →
        (suc at ≤ length (set buffer at x) →
        take (place_after (length (set buffer at x)) (suc at) xs) (placed (set buffer at x) (suc at) xs) ≡ take (length (set buffer at x)) (take (suc at) (set buffer at x) ++ xs)) →
        take (place_after (length buffer) at xs) (placed buffer at xs) ≡ take (length buffer) (take at buffer ++ xs) →
        take (place_after (length buffer) (next_place (length buffer) at) xs) (placed (set buffer at x) (next_place (length buffer) at) xs) ≡ take (length buffer) (take at buffer ++ (x ∷ xs))
    go true e next full =
        let inside : at < length buffer = ltb-true at (length buffer) e in
        let size : length (set buffer at x) ≡ length buffer = length-set buffer at x in
        rw (next_inside (length buffer) at inside) (rw size at (next (omega (arith, size))))
        ∙ ap (λ (l : List ℕ). take (length buffer) (l ++ xs)) (take-suc-set buffer at x inside)
        ∙ ap (take (length buffer)) (append_assoc (take at buffer) (x ∷ []) xs)
    go false e next full =
        let behind : length buffer ≤ at = ltb-false at (length buffer) e in
        let size : length buffer ≤ length (take at buffer) = omega (arith, length-take-le at buffer h) in
        rw (next_behind (length buffer) at behind, set_out buffer at x behind) full
        ∙ take-append-le (length buffer) (take at buffer) xs size
        ∙ sym (take-append-le (length buffer) (take at buffer) (x ∷ xs) size)

pub carried : (old : List ℕ) (at : ℕ) (bytes new : List ℕ) (r : ℕ) → at ≤ length old → Puts old at bytes new r →
    (take r new ≡ take (length old) (take at old ++ bytes)) × (r ≤ length new)
carried old at bytes new r h p = (rw (p.place, p.buffer) (placed_front old at bytes h), puts_inside old at bytes new r p h)
