-- The loops over bytes: a block compared, the first difference, a copy.
-- Assumes nothing.
use mathlib.Core.Path.{◌≡◌, refl, sym, ap, subst, ◌∙◌}
use mathlib.Core.List.{List, [], ◌∷◌, ◌++◌}
use Prim.Native.Nat.{ℕ, suc, ◌+◌, ◌-◌, ◌*◌, ◌/◌, ◌≤◌, ◌<◌, min}
use native.Mathlib.Nat.{add-zero}
use native.Mathlib.Decide.{dec_lt, dec_le, ℕ_discrete}
use native.Mathlib.Numerals.{add-one}
use native.Mathlib.Omega.{arith}
use lib.Bits.{bit_or, bit_xor, or_add_and, xor_add_and, and_le_l, and_le_r}
use lib.ListN.{length, get_or, take, drop, set, length-take, length-drop, length-set}
use lib.Seq.{sets, length-sets, take-suc, get_or-drop, length-take-le, take_all, take-take}
use Rattle.burst.specs.Burst.{size_bytes, put_size, head_first, head_second, transaction_of}
use Rattle.plan.specs.Update.{data_of}
use Rattle.writes.specs.Found.{SameTo, DifferTo}
use Rattle.writes.specs.WrittenLaws.{sets_append, sets_past}

-- ---- same bytes

module _ (settings image : List ℕ) (from : ℕ) where
  pub same_none : SameTo settings image from from
  same_none = record { least = omega arith; same = λ k l u. absurd (omega arith) }

  pub same_more : (a : ℕ) → SameTo settings image from a → get_or settings a 0 ≡ get_or image a 0 → SameTo settings image from (a + 1)
  same_more a s e = record { least = omega (arith, s.least); same = λ k l u. at k l u (ℕ_discrete k a) }
    where
      at : (k : ℕ) → from ≤ k → k < a + 1 → Dec (k ≡ a) → get_or settings k 0 ≡ get_or image k 0
      at k l u (yes q) = subst (λ (x : ℕ). get_or settings x 0 ≡ get_or image x 0) (sym q) e
      at k l u (no q) = s.same k l (omega arith)

  pub same_join : (a b : ℕ) → SameTo settings image from a → SameTo settings image a b → SameTo settings image from b
  same_join a b s t = record { least = omega (arith, s.least, t.least); same = λ k l u. at k l u (dec_lt k a) }
    where
      at : (k : ℕ) → from ≤ k → k < b → Dec (k < a) → get_or settings k 0 ≡ get_or image k 0
      at k l u (yes h) = s.same k l h
      at k l u (no n) = t.same k (omega arith) u

  -- a block of i bytes so far

  pub block_none : SameTo settings image from (from + 0)
  block_none = subst (SameTo settings image from) (sym (add-zero from)) same_none

  pub block_more : (i bits : ℕ) → (bits ≡ 0 → SameTo settings image from (from + i)) →
      bit_or bits (bit_xor (get_or settings (from + i) 0) (get_or image (from + i) 0)) ≡ 0 → SameTo settings image from (from + (i + 1))
  block_more i bits s e =
      let g = gathered (get_or settings (from + i) 0) (get_or image (from + i) 0) e in
      let z : from + i + 1 ≡ from + (i + 1) = omega arith in
      subst (SameTo settings image from) z (same_more (from + i) (s g.0) g.1)
    where
      -- gathered bits that are 0 are of bytes that are the same
      gathered : (x y : ℕ) → bit_or bits (bit_xor x y) ≡ 0 → (bits ≡ 0) × (x ≡ y)
      gathered x y e =
          let o = or_add_and bits (bit_xor x y) in
          let z : bit_xor x y ≡ 0 = omega (arith, o, and_le_l bits (bit_xor x y)) in
          (omega (arith, o, and_le_r bits (bit_xor x y)), omega (arith, z, xor_add_and x y, and_le_l x y, and_le_r x y))

  -- differing bytes so far

  pub record Differing (a : ℕ) : Type 0 where
    pub least : from ≤ a
    pub most : a ≤ 908
    pub differ : (k : ℕ) → from ≤ k → k < a → get_or settings k 0 ≡ get_or image k 0 → ⊥

  pub differing_more : (a : ℕ) → a < 908 → Differing a → (get_or settings a 0 ≡ get_or image a 0 → ⊥) → Differing (a + 1)
  differing_more a h d n = record { least = omega (arith, d.least); most = omega arith; differ = λ k l u. at k l u (ℕ_discrete k a) }
    where
      at : (k : ℕ) → from ≤ k → k < a + 1 → Dec (k ≡ a) → get_or settings k 0 ≡ get_or image k 0 → ⊥
      at k l u (yes q) e = n (subst (λ (x : ℕ). get_or settings x 0 ≡ get_or image x 0) q e)
      at k l u (no q) e = d.differ k l (omega arith) e

  pub differing_done : (a : ℕ) → Differing a → (a < 908 → get_or settings a 0 ≡ get_or image a 0) → DifferTo settings image from a
  differing_done a d s = record { least = d.least; most = d.most; differ = d.differ; same = s }

-- ---- copies

-- what is behind the end of the places is left out
clipped : (xs l : List ℕ) (i : ℕ) → sets l i (take (length l - i) xs) ≡ sets l i xs
clipped [] l i = ap (sets l i) (take_all (length l - i) [] (omega arith))
clipped (x ∷ xs) l i = go (dec_lt i (length l)) (clipped xs (set l i x) (suc i))
  where
    go : Dec (i < length l) → sets (set l i x) (suc i) (take (length (set l i x) - suc i) xs) ≡ sets (set l i x) (suc i) xs →
        sets l i (take (length l - i) (x ∷ xs)) ≡ sets l i (x ∷ xs)
    go (yes h) e =
        let z : length l - i ≡ suc (length (set l i x) - suc i) = omega (arith, length-set l i x) in
        ap (λ (k : ℕ). sets l i (take k (x ∷ xs))) z ∙ e
    go (no n) e = sets_past (take (length l - i) (x ∷ xs)) l i (omega arith) ∙ sym (sets_past (x ∷ xs) l i (omega arith))

-- and so is what is behind the end of the bytes
take_most : (k n : ℕ) (xs : List ℕ) → take (min k n) xs ≡ take n (take k xs)
take_most k n xs = go (dec_le k n)
  where
    go : Dec (k ≤ n) → take (min k n) xs ≡ take n (take k xs)
    go (yes h) =
        let z : min k n ≡ k = omega arith in
        ap (λ (j : ℕ). take j xs) z ∙ sym (take_all n (take k xs) (omega (arith, length-take k xs)))
    go (no h) = let z : min k n ≡ n = omega arith in ap (λ (j : ℕ). take j xs) z ∙ sym (take-take n k xs (omega arith))

-- i bytes stored one by one
module _ (old from : List ℕ) (to start : ℕ) where
  pub record Copied (i : ℕ) (new : List ℕ) : Type 0 where
    pub size : length new ≡ length old
    pub is : new ≡ sets old to (take i (drop start from))

  pub copied_none : Copied 0 old
  copied_none = record { size = refl; is = refl }

  pub copied_more : (i : ℕ) (new : List ℕ) → start + i < length from → Copied i new → Copied (i + 1) (set new (to + i) (get_or from (start + i) 0))
  copied_more i new h c = record {
    size = length-set new (to + i) (get_or from (start + i) 0) ∙ c.size;
    is =
        ap (λ (l : List ℕ). set l (to + i) (get_or from (start + i) 0)) c.is
        ∙ ap (λ (k : ℕ). set (sets old to (take i xs)) (to + k) (get_or from (start + i) 0)) (sym short)
        ∙ sets_append (take i xs) (get_or from (start + i) 0 ∷ []) old to
        ∙ ap (λ (v : ℕ). sets old to (take i xs ++ (v ∷ []))) (sym (get_or-drop start from i 0))
        ∙ ap (λ (l : List ℕ). sets old to l) (sym (take-suc xs i 0 inside) ∙ ap (λ (k : ℕ). take k xs) (sym (add-one i)));
  }
    where
      xs : List ℕ
      xs = drop start from

      inside : i < length (drop start from)
      inside = omega (arith, length-drop start from)

      short : length (take i (drop start from)) ≡ i
      short = length-take-le i (drop start from) (omega (arith, inside))

  -- all of them
  pub copied_all : (len i : ℕ) (new : List ℕ) → i ≡ len → Copied i new → new ≡ sets old to (take len (drop start from))
  copied_all len i new e c = c.is ∙ ap (λ (k : ℕ). sets old to (take k (drop start from))) e

-- as many of the bytes as there are, at as many of the places
pub copied_most : (old from : List ℕ) (to start len most count : ℕ) (new : List ℕ) → most ≡ min len (length from - start) → count ≡ min most (length old - to) →
    new ≡ sets old to (take count (drop start from)) → new ≡ sets old to (take len (drop start from))
copied_most old from to start len most count new em ec e =
    let xs : List ℕ = drop start from in
    let all : take (min len (length from - start)) xs ≡ take len xs =
    take_most len (length from - start) xs ∙ take_all (length from - start) (take len xs) (omega (arith, length-take len xs, length-drop start from)) in
    e
    ∙ ap (λ (k : ℕ). sets old to (take k xs)) (ec ∙ ap (λ (k : ℕ). min k (length old - to)) em)
    ∙ ap (sets old to) (take_most (min len (length from - start)) (length old - to) xs)
    ∙ clipped (take (min len (length from - start)) xs) old to
    ∙ ap (sets old to) all

-- ---- sizes

pub header_put : (n t : ℕ) (old a b : List ℕ) → a ≡ put_size old 0 n → b ≡ put_size a 2 t → b ≡ sets old 0 (size_bytes n ++ size_bytes t)
unfolding put_size
header_put n t old a b ea eb = eb ∙ ap (λ (l : List ℕ). sets l 2 (size_bytes t)) ea ∙ sets_append (size_bytes n) (size_bytes t) old 0

pub length_past : (buffer : List ℕ) (index size : ℕ) → length buffer / 2 < index → buffer ≡ put_size buffer (4 + 2 * index) size
unfolding put_size
length_past buffer index size h = sym (sets_past (size_bytes size) buffer (4 + 2 * index) (omega arith))

-- ---- a transaction

module _ (buffer settings : List ℕ) (at bus pins start len : ℕ) where
  abbrev Put : List ℕ → Type 0
  Put new = new ≡ sets buffer at (transaction_of bus pins (data_of settings (record { start = start; len = len })))

  pub put_none : length buffer ≤ at → Put buffer
  put_none h = sym (sets_past (transaction_of bus pins (data_of settings (record { start = start; len = len }))) buffer at h)

  pub put_head : (x : ℕ) → x ≡ head_first bus pins start → length buffer ≤ at + 1 → Put (set buffer at x)
  unfolding transaction_of
  put_head x e h =
      let z : suc at ≡ at + 1 = omega arith in
      ap (set buffer at) e ∙ sym (sets_past (head_second bus start ∷ take len (drop start settings)) (set buffer at (head_first bus pins start)) (suc at) (omega (arith, length-set buffer at (head_first bus pins start))))

  pub put_all : (x y : ℕ) (new : List ℕ) → x ≡ head_first bus pins start → y ≡ head_second bus start →
      new ≡ sets (set (set buffer at x) (at + 1) y) (at + 1 + 1) (take len (drop start settings)) → Put new
  unfolding transaction_of
  put_all x y new ex ey e = e ∙ rw (ex, ey, add-one at, add-one (suc at)) refl

pub transaction_size : (buffer new settings : List ℕ) (at start len x y : ℕ) →
    new ≡ sets (set (set buffer at x) (at + 1) y) (at + 1 + 1) (take len (drop start settings)) → length new ≡ length buffer
transaction_size buffer new settings at start len x y e =
    ap length e ∙ length-sets (set (set buffer at x) (at + 1) y) (at + 1 + 1) (take len (drop start settings)) ∙ length-set (set buffer at x) (at + 1) y ∙ length-set buffer at x
