-- Laws of Replies.antt: an answer's numbers piece by piece, what a reply says of them, and how long their text is at most.
-- Assumes nothing.
use Rattle.std.specs.Prelude.{◌≡◌, refl, true, cond, ℕ, zero, suc, ◌+◌, ◌^◌, ◌≤◌, ◌<◌, ltb, length, take}
use Rattle.std.proofs.Math.Path.{ap}
use mathlib.Core.List.{List, [], ◌∷◌, ◌++◌, append-nil}
use Rattle.std.proofs.Common.{arith, lt-ltb, length-append}
use Rattle.std.proofs.Math.Seq.{take-nil}
use Rattle.map.specs.Refusals.{numbers_in, numbers_of}
use Rattle.map.specs.RefusalLaws.{numbers_five, numbers_back}
use Rattle.text.specs.Text.{decimal_text, each_text}
use Rattle.text.specs.TextLaws.{decimal_length}
use Rattle.replies.specs.declared.Reply.TheVariants.{Numbers, Lent}
use Rattle.replies.specs.Replies.{value_text, numbers_text, lent_text, reply_text}

-- ---- pieces

-- a value where there is one
abbrev pub value_if : ℕ → ℕ → ℕ → List ℕ
value_if c k v = cond (ltb k c) (value_text v) []

-- the number, then each value of four
pub numbers_pieces : (c n v w x y : ℕ) → (c ≡ 0 → ⊥) →
    numbers_text (take c (n ∷ v ∷ w ∷ x ∷ y ∷ [])) ≡ decimal_text n ++ (value_if c 1 v ++ (value_if c 2 w ++ (value_if c 3 x ++ value_if c 4 y)))
unfolding numbers_text each_text
numbers_pieces zero n v w x y h = absurd (h refl)
numbers_pieces (suc zero) n v w x y h = refl
numbers_pieces (suc (suc zero)) n v w x y h = refl
numbers_pieces (suc (suc (suc zero))) n v w x y h = refl
numbers_pieces (suc (suc (suc (suc zero)))) n v w x y h = refl
numbers_pieces (suc (suc (suc (suc (suc c))))) n v w x y h =
    let last : value_text y ++ each_text value_text (take c []) ≡ value_text y = rw (take-nil c) (append-nil (value_text y)) in
    rw (above 1 (omega arith), above 2 (omega arith), above 3 (omega arith), above 4 (omega arith))
    (ap (λ (l : List ℕ). decimal_text n ++ (value_text v ++ (value_text w ++ (value_text x ++ l)))) last)
  where
    above : (k : ℕ) → k < 5 → ltb k (suc (suc (suc (suc (suc c))))) ≡ true
    above k h = lt-ltb k (suc (suc (suc (suc (suc c))))) (omega arith)

-- ---- replies

-- the numbers of an answer of at most four values are printed as they are
module _ (l b : List ℕ) (h : length l ≤ 5) where
  pub numbers_printed : reply_text (Numbers (numbers_of l)) b ≡ numbers_text l
  unfolding reply_text
  numbers_printed = ap numbers_text (numbers_back l h)

  pub lent_printed : reply_text (Lent (numbers_of l)) b ≡ numbers_text l ++ lent_text b
  unfolding reply_text
  lent_printed = ap (λ (ns : List ℕ). numbers_text ns ++ lent_text b) (numbers_back l h)

-- ---- lengths

value_length : (k v : ℕ) → v < 10 ^ suc k → length (value_text v) ≤ suc (suc k)
unfolding value_text
value_length k v h = omega (arith, decimal_length k v h)

-- each value has one digit and at most so many more
abbrev pub Digits : List ℕ → List ℕ → Type 0
Digits [] [] = Unit
Digits [] (v ∷ vs) = ⊥
Digits (k ∷ ks) [] = ⊥
Digits (k ∷ ks) (v ∷ vs) = (v < 10 ^ suc k) × Digits ks vs

-- with a space before each
abbrev pub values_width : List ℕ → ℕ
values_width [] = 0
values_width (k ∷ ks) = suc (suc k) + values_width ks

values_most : (ks vs : List ℕ) → Digits ks vs → length (each_text value_text vs) ≤ values_width ks
unfolding each_text
values_most [] [] d = omega arith
values_most [] (v ∷ vs) d = absurd d
values_most (k ∷ ks) [] d = absurd d
values_most (k ∷ ks) (v ∷ vs) d =
    let rest = values_most ks vs d.1 in
    omega (arith, length-append (value_text v) (each_text value_text vs), value_length k v d.0, rest)

-- the number has one digit and at most k more
pub numbers_most : (k n : ℕ) (ks vs : List ℕ) → n < 10 ^ suc k → Digits ks vs → length (numbers_text (n ∷ vs)) ≤ suc k + values_width ks
unfolding numbers_text
numbers_most k n ks vs h d = omega (arith, length-append (decimal_text n) (each_text value_text vs), decimal_length k n h, values_most ks vs d)

take_within : (f : ℕ → List ℕ) (k : ℕ) (vs : List ℕ) → length (each_text f (take k vs)) ≤ length (each_text f vs)
unfolding each_text
take_within f zero vs = omega arith
take_within f (suc k) [] = omega arith
take_within f (suc k) (v ∷ vs) =
    let rest = take_within f k vs in
    omega (arith, length-append (f v) (each_text f (take k vs)), length-append (f v) (each_text f vs), rest)

-- the text of the first numbers is no longer than that of all
pub first_within : (k : ℕ) (l : List ℕ) → length (numbers_text (take k l)) ≤ length (numbers_text l)
unfolding numbers_text
first_within zero l = omega arith
first_within (suc k) [] = omega arith
first_within (suc k) (n ∷ vs) =
    let rest = take_within value_text k vs in
    omega (arith, length-append (decimal_text n) (each_text value_text (take k vs)), length-append (decimal_text n) (each_text value_text vs), rest)

-- the text of a list's numbers is no longer than that of the list
pub numbers_within : (l : List ℕ) → length (numbers_text (numbers_in (numbers_of l))) ≤ length (numbers_text l)
numbers_within l = rw (numbers_five l) (first_within 5 l)
