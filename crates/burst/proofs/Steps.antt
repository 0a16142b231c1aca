-- One lemma for each answer of the head's reader, of the size reader and of the place of a transaction, for each end of the stores
-- of a size, and for each turn of the loops over the lengths.
-- Assumes nothing.
use mathlib.Core.Path.{◌≡◌, refl, sym, ap, ◌∙◌}
use mathlib.Core.Bool.{Bool, true, false, cond, not, and-true, and-false}
use mathlib.Core.List.{List}
use Prim.Native.Nat.{ℕ, suc, ◌+◌, ◌-◌, ◌*◌, ◌/◌, ◌%◌, ◌≤◌, ◌<◌}
use native.Mathlib.Nat.{mod-eq_of_lt, add-zero, zero-add, sub-zero}
use native.Mathlib.Numerals.{add-one}
use native.Mathlib.Omega.{arith}
use borrow.Author.Tests.{eq-eqb, ne_eqb, le-leb, lt-leb, lt-ltb, le-ltb, not-true, not-false}
use lib.Dec.{leb, eqb}
use lib.ListN.{length, set}
use lib.Seq.{set_out}
use Rattle.std.specs.Prelude.{Option, None, Some, Ok, Err, ok_or}
use Rattle.burst.specs.declared.sizes.Sizes.{Sizes}
use Rattle.burst.specs.declared.places.PlaceError.{PlaceError}
use Rattle.burst.specs.declared.places.PlaceError.TheVariants.{BadSizes, NoIndex}
use Rattle.burst.specs.Burst.{size16, put_size, n_of, t_of, lengths_from, lengths, sum, all_at_least3, lengths_good, sizes_good, sized, sizes_of, bytes_before, offset_at, at, place_of, head_address}
use Rattle.burst.specs.BurstLaws.{size_small, lengths_none, lengths_step, GoodSizes, sizes_good_lem, sizes_bad}
use Rattle.burst.specs.PlaceLaws.{length_at_lem, bytes_none, bytes_next, bytes_most}

-- ---- heads

pub address_i2c : (bus h0 h1 : ℕ) → bus ≡ 0 → h1 < 256 → 256 * (h0 / 2 % 4) + h1 ≡ head_address bus h0 h1
unfolding head_address
address_i2c bus h0 h1 e h = simp (eq-eqb bus 0 e, mod-eq_of_lt h)

pub address_spi : (bus h0 h1 : ℕ) → (bus ≡ 0 → ⊥) → h0 < 256 → h1 < 256 → 4 * h0 + h1 / 64 ≡ head_address bus h0 h1
unfolding head_address
address_spi bus h0 h1 e h k = rw (ne_eqb bus 0 e) (omega arith)

-- ---- the stores of a size

pub put_none : (buffer : List ℕ) (p k : ℕ) → length buffer ≤ p → buffer ≡ put_size buffer p k
unfolding put_size
put_none buffer p k h =
    sym (ap (λ (l : List ℕ). set l (suc p) (k / 256 % 256)) (set_out buffer p (k % 256) h) ∙ set_out buffer (suc p) (k / 256 % 256) (omega arith))

pub put_low : (buffer : List ℕ) (p k : ℕ) → length (set buffer p (k % 256)) ≤ p + 1 → set buffer p (k % 256) ≡ put_size buffer p k
unfolding put_size
put_low buffer p k h = sym (set_out (set buffer p (k % 256)) (suc p) (k / 256 % 256) (omega arith))

pub put_both : (buffer : List ℕ) (p k : ℕ) → set (set buffer p (k % 256)) (p + 1) (k / 256 % 256) ≡ put_size buffer p k
unfolding put_size
put_both buffer p k = rw add-one

-- ---- the loop over the lengths

-- i lengths are read, each 3 or more, and add up to s
pub record Counted (l : List ℕ) (n s i : ℕ) : Type 0 where
  pub below : i ≤ n
  pub small : s ≤ 65536 * i
  pub least : all_at_least3 (lengths_from l (4 + 2 * i) (n - i)) ≡ all_at_least3 (lengths_from l 4 n)
  pub adds : s + sum (lengths_from l (4 + 2 * i) (n - i)) ≡ sum (lengths_from l 4 n)

pub counted_none : (l : List ℕ) (n : ℕ) → Counted l n 0 0
counted_none l n = record { below = omega arith; small = omega arith; least = rw sub-zero refl; adds = rw (sub-zero, zero-add) refl }

pub counted_more : (l : List ℕ) (n s i k : ℕ) → i < n → k ≡ size16 l (4 + 2 * i) → 3 ≤ k → Counted l n s i → Counted l n (s + k) (i + 1)
counted_more l n s i k h e m c =
    let step = lengths_step l n i h in
    let least = rw (step, ← e, le-leb 3 k m) at c.least in
    let adds = rw (step, ← e) at c.adds in
    record { below = omega arith; small = omega (arith, size_small l (4 + 2 * i), c.small); least = least; adds = omega arith }

pub counted_fails : (l : List ℕ) (n s i k t : ℕ) → i < n → k ≡ size16 l (4 + 2 * i) → k < 3 → Counted l n s i →
    false ≡ lengths_good (lengths_from l 4 n) t
unfolding lengths_good
counted_fails l n s i k t h e m c =
    let least : false ≡ all_at_least3 (lengths_from l 4 n) = rw (lengths_step l n i h, ← e, lt-leb 3 k m) at c.least in
    rw (← least)

pub counted_all : (l : List ℕ) (n s i t : ℕ) → n ≤ i → Counted l n s i → eqb s t ≡ lengths_good (lengths_from l 4 n) t
unfolding lengths_good
counted_all l n s i t h c =
    let done : n - i ≡ 0 = omega arith in
    let least : true ≡ all_at_least3 (lengths_from l 4 n) = rw (done, lengths_none l (4 + 2 * i)) at c.least in
    let adds : s + 0 ≡ sum (lengths_from l 4 n) = rw (done, lengths_none l (4 + 2 * i)) at c.adds in
    rw (← least, ← adds, add-zero)

-- ---- the answers of the size reader

-- a list of the right length with the lengths good or not
sizes_by : (l : List ℕ) (n t : ℕ) (b : Bool) → n ≡ size16 l 0 → t ≡ size16 l 2 → 4 ≤ length l → length l ≡ 4 + 2 * n + t →
    b ≡ lengths_good (lengths_from l 4 n) t → cond b (sized n t) None ≡ sizes_of l
unfolding sizes_of sizes_good lengths n_of t_of
sizes_by l n t b en et h s e =
    simp (← en, ← et, le-leb 4 (length l) h, eq-eqb (length l) (4 + 2 * n + t) s, ← e, and-true b)

pub sizes_short : (l : List ℕ) → length l < 4 → None ≡ sizes_of l
unfolding sizes_of sizes_good
sizes_short l h = simp (lt-leb 4 (length l) h)

pub sizes_other : (l : List ℕ) (n t : ℕ) → n ≡ size16 l 0 → t ≡ size16 l 2 → (length l ≡ 4 + 2 * n + t → ⊥) → None ≡ sizes_of l
unfolding sizes_of sizes_good n_of t_of
sizes_other l n t en et s =
    simp (← en, ← et, ne_eqb (length l) (4 + 2 * n + t) s, and-false (lengths_good (lengths l) t), and-false (leb 4 (length l)))

pub sizes_lengths : (l : List ℕ) (n t : ℕ) (b : Bool) → n ≡ size16 l 0 → t ≡ size16 l 2 → 4 ≤ length l → length l ≡ 4 + 2 * n + t →
    b ≡ lengths_good (lengths_from l 4 n) t → not b ≡ true → None ≡ sizes_of l
sizes_lengths l n t b en et h s e f = sizes_by l n t false en et h s (sym (not-true b f) ∙ e)

pub sizes_all : (l : List ℕ) (n t : ℕ) (b : Bool) → n ≡ size16 l 0 → t ≡ size16 l 2 → 4 ≤ length l → length l ≡ 4 + 2 * n + t →
    b ≡ lengths_good (lengths_from l 4 n) t → not b ≡ false → sized n t ≡ sizes_of l
sizes_all l n t b en et h s e f = sizes_by l n t true en et h s (sym (not-false b f) ∙ e)

-- ---- the loop over the lengths before a transaction

-- i lengths are read, and add up to s
pub record Summed (l : List ℕ) (index s i : ℕ) : Type 0 where
  pub below : i ≤ index
  pub known : index < n_of l
  pub few : index < 65536
  pub small : s ≤ 65536 * i
  pub adds : s ≡ bytes_before l i

pub summed_none : (l : List ℕ) (index : ℕ) → index < n_of l → Summed l index 0 0
unfolding n_of
summed_none l index h = record { below = omega arith; known = h; few = omega (arith, size_small l 0); small = omega arith; adds = sym (bytes_none l) }

pub summed_more : (l : List ℕ) (index s i k : ℕ) → i < index → k ≡ size16 l (4 + 2 * i) → Summed l index s i → Summed l index (s + k) (i + 1)
summed_more l index s i k h e c =
    let adds : s + k ≡ bytes_before l (suc i) = omega (arith, bytes_next l i, length_at_lem l i (omega arith), c.adds) in
    record {
      below = omega arith;
      known = c.known;
      few = c.few;
      small = omega (arith, size_small l (4 + 2 * i), c.small);
      adds = rw add-one adds;
    }

pub summed_all : (l : List ℕ) (index s i : ℕ) → index ≤ i → Summed l index s i → s ≡ bytes_before l index
summed_all l index s i h c =
    let end : i ≡ index = omega arith in
    rw end at c.adds

-- ---- the answers of the place of a transaction

pub before_small : (l : List ℕ) (n t i before : ℕ) → GoodSizes l n t → before ≡ bytes_before l i → before < 65536
before_small l n t i before g e = omega (arith, bytes_most l i g.good, g.t_is, g.t_small)

-- the sizes as they were read, or the error where there are none
module _ (l : List ℕ) (r : Option Sizes) (read : r ≡ sizes_of l) where
  pub good_read : (s : Sizes) → Ok s ≡ ok_or r BadSizes → GoodSizes l s.n s.t
  good_read s e = sizes_good_lem l s.n s.t (sym read ∙ was r e)
    where
      was : (o : Option Sizes) → Ok s ≡ ok_or o BadSizes → o ≡ Some s
      was o e = grind arith

  pub place_bad : (i : ℕ) (e : PlaceError) → Err e ≡ ok_or r BadSizes → Err e ≡ place_of l i
  unfolding place_of
  place_bad i e h = rw (same r h, sizes_bad l (sym read ∙ none r h)) refl
    where
      same : (o : Option Sizes) → Err e ≡ ok_or o BadSizes → e ≡ BadSizes
      same None q = cc
      same (Some s) q = cc

      none : (o : Option Sizes) → Err e ≡ ok_or o BadSizes → o ≡ None
      none None q = refl
      none (Some s) q = cc

pub place_none : (l : List ℕ) (n t i : ℕ) → GoodSizes l n t → n ≤ i → Err NoIndex ≡ place_of l i
unfolding place_of
place_none l n t i g h = rw (g.good, g.n_is, le-ltb i n h) refl

pub place_at : (l : List ℕ) (n t i before k : ℕ) → GoodSizes l n t → i < n → before ≡ bytes_before l i → k ≡ size16 l (4 + 2 * i) →
    at (4 + 2 * n + before) k ≡ place_of l i
unfolding place_of offset_at
place_at l n t i before k g h e f =
    let below : i < n_of l = omega (arith, g.n_is) in
    rw (g.good, lt-ltb i (n_of l) below, length_at_lem l i below, ← f, ← e, g.n_is) refl
