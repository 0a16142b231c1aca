-- What `check` says of the chip and the ledger: `same` where every writable register is the ledger's, 38Bh included, and otherwise the
-- lowest one that is not. It says one of the two wherever the ledger is not void (`check_says`), so that the laws fix its answer.
-- Assumes nothing.
use Rattle.std.specs.Prelude.{◌≡◌, Bool, not, ◌&&◌, Option, Some, None, MatchOption, List, eqb, get_or}
use Rattle.std.proofs.Math.Path.{refl, ap, subst}
use Rattle.std.proofs.Common.{sym, ◌∙◌, eq-eqb, eqb-true}
use Rattle.std.proofs.Math.Bool.{true, false}
use Rattle.std.proofs.lemmas.Bool.{false≢true}
use Prim.Native.Nat.{ℕ, zero, suc, ◌+◌, ◌≤◌, ◌<◌}
use Rattle.std.proofs.Math.Decide.{ℕ_discrete}
use native.Mathlib.Omega.{arith}
use Rattle.map.specs.Map.{writable_of}
use Rattle.history.specs.declared.Ledger.{Ledger}
use Rattle.replies.specs.declared.Reply.{Reply}
use Rattle.replies.specs.declared.Reply.TheVariants.{Bad, Numbers, Lent, Bytes, Same, Differs, Free, Locked}
use Rattle.session.specs.declared.Session.{Session}
use Rattle.session.specs.Run.{Plain, chip_differs, compare_from, compare, compared}

-- ---- one address

-- what differs is writable, and the bytes are not the same
differs_not : (m a held asked : ℕ) → chip_differs m a held asked ≡ true → held ≡ asked → ⊥
unfolding chip_differs
differs_not m a held asked e s = false≢true (sym (rw (eq-eqb held asked s) refl) ∙ e)

differs_writable : (m a held asked : ℕ) → chip_differs m a held asked ≡ true → writable_of m a ≡ true
unfolding chip_differs
differs_writable m a held asked e = go (not (eqb held asked)) (writable_of m a) e
  where
    go : (x y : Bool) → (x && y) ≡ true → y ≡ true
    go true y q = q
    go false y q = absurd (false≢true q)

-- a writable address that does not differ has the same bytes
agrees_same : (m a held asked : ℕ) → chip_differs m a held asked ≡ false → writable_of m a ≡ true → held ≡ asked
unfolding chip_differs
agrees_same m a held asked e w = eqb-true held asked (go (eqb held asked) (writable_of m a) e w)
  where
    go : (x y : Bool) → (not x && y) ≡ false → y ≡ true → x ≡ true
    go true y q w = refl
    go false y q w = sym q ∙ w

-- ---- addresses from a on

-- tells `?`, `same` and each address that `differs` names apart
abbrev named : Reply → ℕ
named Bad = 1
named (Numbers n) = 0
named (Lent n) = 0
named Bytes = 0
named Same = 0
named (Differs a) = 2 + a
named Free = 0
named Locked = 0

module _ (m : ℕ) (x y : List ℕ) where
  -- a writable address has the same byte in both
  abbrev SameAt : ℕ → Type 0
  SameAt k = writable_of m k ≡ true → get_or x k 0 ≡ get_or y k 0

  -- k is the lowest of the n addresses from a on that is writable and differs
  pub record Lowest (a n k : ℕ) : Type 0 where
    pub from : a ≤ k
    pub below : k < a + n
    pub writable : writable_of m k ≡ true
    pub differs : get_or x k 0 ≡ get_or y k 0 → ⊥
    pub lowest : (j : ℕ) → a ≤ j → j < k → SameAt j

  step : (a n : ℕ) (t : Bool) → chip_differs m a (get_or x a 0) (get_or y a 0) ≡ t →
      compare_from m x y a (suc n) ≡ elim t [ true ↦ Differs a | false ↦ compare_from m x y (suc a) n ]
  unfolding compare_from
  step a n t e = rw (e, compare_from) refl

  -- the reply is `same`, or names an address
  pub data Says (r : Reply) : Type 0 where
    same : r ≡ Same → Says r
    differs : (k : ℕ) → r ≡ Differs k → Says r

  says_from : (n a : ℕ) → Says (compare_from m x y a n)
  unfolding compare_from
  says_from zero a = same refl
  says_from (suc n) a = go (says_from n (suc a)) (chip_differs m a (get_or x a 0) (get_or y a 0)) refl
    where
      go : Says (compare_from m x y (suc a) n) → (t : Bool) → chip_differs m a (get_or x a 0) (get_or y a 0) ≡ t → Says (compare_from m x y a (suc n))
      go rest true q = differs a (step a n true q)
      go (same e) false q = same (step a n false q ∙ e)
      go (differs k e) false q = differs k (step a n false q ∙ e)

  same_from : (n a : ℕ) → compare_from m x y a n ≡ Same → (k : ℕ) → a ≤ k → k < a + n → SameAt k
  same_from zero a e k l h = absurd (omega arith)
  same_from (suc n) a e k l h = go (same_from n (suc a)) (chip_differs m a (get_or x a 0) (get_or y a 0)) refl (ℕ_discrete k a)
    where
      go : (compare_from m x y (suc a) n ≡ Same → (j : ℕ) → suc a ≤ j → j < suc a + n → SameAt j) →
          (t : Bool) → chip_differs m a (get_or x a 0) (get_or y a 0) ≡ t → Dec (k ≡ a) → SameAt k
      go rest true q d w = let z : 2 + a ≡ 0 = ap named (sym (step a n true q) ∙ e) in absurd (omega arith)
      go rest false q (yes p) w = rw p (agrees_same m a (get_or x a 0) (get_or y a 0) q (sym (ap (writable_of m) p) ∙ w))
      go rest false q (no p) w = rest (sym (step a n false q) ∙ e) k (omega arith) (omega arith) w

  -- the first of the addresses is the lowest that differs
  first_lowest : (n a : ℕ) → chip_differs m a (get_or x a 0) (get_or y a 0) ≡ true → Lowest a (suc n) a
  first_lowest n a q = record {
    from = omega arith;
    below = omega arith;
    writable = differs_writable m a (get_or x a 0) (get_or y a 0) q;
    differs = differs_not m a (get_or x a 0) (get_or y a 0) q;
    lowest = λ j l h. absurd (omega arith);
  }

  -- or it does not, and the lowest is among the others
  later_lowest : (n a k : ℕ) → chip_differs m a (get_or x a 0) (get_or y a 0) ≡ false → Lowest (suc a) n k → Lowest a (suc n) k
  later_lowest n a k q rest = record {
    from = omega (arith, rest.from);
    below = omega (arith, rest.below);
    writable = rest.writable;
    differs = rest.differs;
    lowest = λ j l h. before j l h (ℕ_discrete j a);
  }
    where
      before : (j : ℕ) → a ≤ j → j < k → Dec (j ≡ a) → SameAt j
      before j l h (yes p) w = rw p (agrees_same m a (get_or x a 0) (get_or y a 0) q (sym (ap (writable_of m) p) ∙ w))
      before j l h (no p) w = rest.lowest j (omega arith) h w

  differs_from : (n a k : ℕ) → compare_from m x y a n ≡ Differs k → Lowest a n k
  unfolding compare_from
  differs_from zero a k e = let z : 0 ≡ 2 + k = ap named e in absurd (omega arith)
  differs_from (suc n) a k e = go (differs_from n (suc a) k) (chip_differs m a (get_or x a 0) (get_or y a 0)) refl
    where
      go : (compare_from m x y (suc a) n ≡ Differs k → Lowest (suc a) n k) →
          (t : Bool) → chip_differs m a (get_or x a 0) (get_or y a 0) ≡ t → Lowest a (suc n) k
      go rest true q =
          let z : 2 + a ≡ 2 + k = ap named (sym (step a n true q) ∙ e) in
          let here : a ≡ k = omega arith in
          subst (Lowest a (suc n)) here (first_lowest n a q)
      go rest false q = later_lowest n a k q (rest (sym (step a n false q) ∙ e))

-- ---- `check`

module _ (s : Session) (g : Ledger) (is : s.ledger ≡ Some g) where
  -- the ledger's member, the chip's registers and the ledger's bytes
  abbrev m : ℕ
  m = g.member

  abbrev x : List ℕ
  x = s.world.chip.registers

  abbrev y : List ℕ
  y = g.bytes

  compared_is : compared s ≡ compare_from m x y 0 908
  unfolding compared
  compared_is = ap (compare x) is

  -- "compares every writable register of the chip model with the ledger"
  same_is : compared s ≡ Same → (a : ℕ) → a < 908 → writable_of m a ≡ true → get_or x a 0 ≡ get_or y a 0
  same_is e a h = same_from m x y 908 0 (sym compared_is ∙ e) a (omega arith) (omega arith)

  -- "or `differs A` with the lowest differing address"
  differs_is : (k : ℕ) → compared s ≡ Differs k → Lowest m x y 0 908 k
  differs_is k e = differs_from m x y 908 0 k (sym compared_is ∙ e)

  -- "`same`, or `differs A`": one of the two, unless the ledger is void
  pub check_says : Says m x y (compared s)
  check_says = rw compared_is (says_from m x y 908 0)

-- what `check` says of a ledger that there is; without one it says neither
module _ (s : Session) where
  -- there is a ledger, and this holds of it
  abbrev Kept : (Ledger → Type 0) → Option Ledger → Type 0
  Kept P l = MatchOption l ⊥ P

  kept : (P : Ledger → Type 0) (r : Reply) → (r ≡ Bad → ⊥) → compared s ≡ r → ((g : Ledger) → s.ledger ≡ Some g → P g) → Kept P s.ledger
  unfolding compared
  kept P r n e p = go s.ledger refl
    where
      go : (l : Option Ledger) → s.ledger ≡ l → Kept P l
      go (Some g) q = p g q
      go None q = n (sym e ∙ ap (compare s.world.chip.registers) q)

  -- "compares every writable register of the chip model with the ledger"
  pub check_same : compared s ≡ Same →
      Kept (λ g. (a : ℕ) → a < 908 → writable_of g.member a ≡ true → get_or s.world.chip.registers a 0 ≡ get_or g.bytes a 0) s.ledger
  check_same e = kept _ Same (λ q. let z : 0 ≡ 1 = ap named q in absurd (omega arith)) e (λ g is. same_is s g is e)

  -- "or `differs A` with the lowest differing address"
  pub check_differs : (k : ℕ) → compared s ≡ Differs k → Kept (λ g. Lowest g.member s.world.chip.registers g.bytes 0 908 k) s.ledger
  check_differs k e = kept _ (Differs k) (λ q. let z : 2 + k ≡ 1 = ap named q in absurd (omega arith)) e (λ g is. differs_is s g is k e)

-- "`check` then prints `?` until the next accepted `open`"
pub check_void : (s : Session) → s.ledger ≡ None → compared s ≡ Bad
unfolding compared
check_void s e = ap (compare s.world.chip.registers) e

-- what it prints has no numbers of an answer
plain_from : (m : ℕ) (x y : List ℕ) (n a : ℕ) → Plain (compare_from m x y a n)
unfolding Plain compare_from
plain_from m x y zero a = omega arith
plain_from m x y (suc n) a = go (chip_differs m a (get_or x a 0) (get_or y a 0)) (plain_from m x y n (suc a))
  where
    go : (t : Bool) → Plain (compare_from m x y (suc a) n) → Plain (elim t [ true ↦ Differs a | false ↦ compare_from m x y (suc a) n ])
    go true h = omega arith
    go false h = h

pub compared_plain : (s : Session) → Plain (compared s)
unfolding compared Plain
compared_plain s = go s.ledger
  where
    go : (l : Option Ledger) → Plain (compare s.world.chip.registers l)
    go (Some g) = plain_from g.member s.world.chip.registers g.bytes 908 0
    go None = omega arith
