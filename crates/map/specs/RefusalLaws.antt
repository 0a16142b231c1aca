-- What Open answers, by the ranges of its arguments, and what follows from its acceptance. The numbers of an answer are those of its
-- list, and the first of them is small.
-- Assumes nothing.
use Rattle.std.specs.Prelude.{◌≡◌, Bool, ◌&&◌, ◌||◌, List, [], ◌∷◌, ℕ, Ok, Err, ◌<◌, ◌≤◌, ltb, eqb, length, take}
use Rattle.std.proofs.Math.Path.{refl}
use Rattle.std.proofs.Common.{sym, ap, ◌∙◌, take_all}
use Rattle.std.proofs.Math.Bool.{true, false, cond}
use Rattle.std.proofs.lemmas.Bool.{false≢true}
use Rattle.std.proofs.Math.Decide.{dec_lt}
use native.Mathlib.Omega.{arith}
use borrow.Author.Tests.{lt-ltb, le-ltb, eq-eqb}
use Rattle.std.proofs.Math.Seq.{take-nil}
use Rattle.map.specs.declared.refusals.Refusal.{Refusal}
use Rattle.map.specs.declared.refusals.Refusal.TheVariants.{Member, Bus, Pins, NotWritable, ReservedBit, NoDot, Level, GroupOrState, SceneLength, BufferShort, ListSizes, FaultLength, Unsound, RoundLimit, NotItsPlace, Locked, NotLockable, NoTransaction}
use Rattle.map.specs.Refusals.{Answer, refusal_number, answer_number, numbers_in, numbers_of, open_answer, opens}

-- an answer has at most four values
pub numbers_five : (l : List ℕ) → numbers_in (numbers_of l) ≡ take 5 l
unfolding numbers_in numbers_of
numbers_five [] = refl
numbers_five (n ∷ []) = refl
numbers_five (n ∷ v ∷ []) = refl
numbers_five (n ∷ v ∷ w ∷ []) = refl
numbers_five (n ∷ v ∷ w ∷ x ∷ []) = refl
numbers_five (n ∷ v ∷ w ∷ x ∷ y ∷ l) = ap (λ (r : List ℕ). n ∷ v ∷ w ∷ x ∷ y ∷ r) (take-nil (length l))

pub numbers_back : (l : List ℕ) → length l ≤ 5 → numbers_in (numbers_of l) ≡ l
numbers_back l h = numbers_five l ∙ take_all 5 l h

-- a number has two digits at most
pub refusal_small : (r : Refusal) → refusal_number r < 100
refusal_small Member = omega arith
refusal_small Bus = omega arith
refusal_small Pins = omega arith
refusal_small NotWritable = omega arith
refusal_small ReservedBit = omega arith
refusal_small NoDot = omega arith
refusal_small Level = omega arith
refusal_small GroupOrState = omega arith
refusal_small SceneLength = omega arith
refusal_small BufferShort = omega arith
refusal_small ListSizes = omega arith
refusal_small FaultLength = omega arith
refusal_small Unsound = omega arith
refusal_small RoundLimit = omega arith
refusal_small NotItsPlace = omega arith
refusal_small Locked = omega arith
refusal_small NotLockable = omega arith
refusal_small NoTransaction = omega arith

pub answer_small : (answer : Answer) → answer_number answer < 100
answer_small (Ok u) = omega arith
answer_small (Err r) = refusal_small r

module _ (m b p : ℕ) where
  pub open_member : 4 < m → open_answer m b p ≡ Err Member
  unfolding open_answer
  open_member h = rw (lt-ltb 4 m h) refl

  pub open_bus : m ≤ 4 → 1 < b → open_answer m b p ≡ Err Bus
  unfolding open_answer
  open_bus hm h = rw (le-ltb 4 m hm, lt-ltb 1 b h) refl

  pub open_pins : m ≤ 4 → b ≤ 1 → 3 < p → open_answer m b p ≡ Err Pins
  unfolding open_answer
  open_pins hm hb h = rw (le-ltb 4 m hm, le-ltb 1 b hb, lt-ltb 3 p h) refl

  pub open_i2c : m ≤ 4 → p ≤ 3 → b ≡ 0 → open_answer m b p ≡ Ok tt
  unfolding open_answer
  open_i2c hm hp e = rw (le-ltb 4 m hm, e, le-ltb 3 p hp) refl

  pub open_spi_pins : m ≤ 4 → b ≤ 1 → (b ≡ 0 → ⊥) → 0 < p → open_answer m b p ≡ Err Pins
  unfolding open_answer
  open_spi_pins hm hb n h = rw (le-ltb 4 m hm, le-ltb 1 b hb, eq-eqb b 1 (omega arith), lt-ltb 0 p h) (either (ltb 3 p))
    where
      either : (x : Bool) → cond (x || true) (Err Pins) (Ok (tt {0})) ≡ Err Pins
      either true = refl
      either false = refl

  pub open_spi : m ≤ 4 → b ≤ 1 → p ≤ 0 → open_answer m b p ≡ Ok tt
  unfolding open_answer
  open_spi hm hb h = rw (le-ltb 4 m hm, le-ltb 1 b hb, le-ltb 3 p (omega arith), le-ltb 0 p h) (either (eqb b 1))
    where
      either : (x : Bool) → cond (false || (x && false)) (Err Pins) (Ok (tt {0})) ≡ Ok (tt {0})
      either true = refl
      either false = refl

  refuses : (r : Bool) → opens m b p ≡ r → r ≡ false → opens m b p ≡ true → ⊥
  refuses r e f t = false≢true (sym (e ∙ f) ∙ t)

  pub opens_member : opens m b p ≡ true → m < 5
  unfolding opens
  opens_member t = go (dec_lt 4 m)
    where
      go : Dec (4 < m) → m < 5
      go (no n) = omega arith
      go (yes h) = absurd (false≢true (rw (open_member h) at t))

  pub opens_bus : opens m b p ≡ true → b < 2
  unfolding opens
  opens_bus t = go (dec_lt 1 b)
    where
      hm : m ≤ 4
      hm = let h = opens_member t in omega arith

      go : Dec (1 < b) → b < 2
      go (no n) = omega arith
      go (yes h) = absurd (false≢true (rw (open_bus hm h) at t))

  pub opens_pins : opens m b p ≡ true → p < 4
  unfolding opens
  opens_pins t = go (dec_lt 3 p)
    where
      hm : m ≤ 4
      hm = let h = opens_member t in omega arith

      hb : b ≤ 1
      hb = let h = opens_bus t in omega arith

      go : Dec (3 < p) → p < 4
      go (no n) = omega arith
      go (yes h) = absurd (false≢true (rw (open_pins hm hb h) at t))
