-- `check`: the first pair of bytes that differs is at the lowest address that differs.
-- Assumes nothing.
use mathlib.Core.Path.{◌≡◌, refl, sym}
use mathlib.Core.Bool.{Bool, true, false, cond}
use mathlib.Core.List.{List}
use Prim.Native.Nat.{ℕ, zero, suc, ◌+◌, ◌<◌}
use native.Mathlib.Numerals.{add-one}
use native.Mathlib.Omega.{arith}
use Rattle.std.specs.Prelude.{Option, Some, None, find}
use Rattle.std.specs.List.{enumerate_from, zip}
use Rattle.std.proofs.lemmas.List.{drop_all}
use Rattle.std.proofs.Math.Seq.{drop-cons}
use lib.ListN.{length, get_or, drop}
use Rattle.replies.specs.declared.Reply.{Reply}
use Rattle.replies.specs.declared.Reply.TheVariants.{Same, Differs}
use Rattle.session.specs.Run.{chip_differs, compare_from}

-- the reply to the first address that differs, with the bytes that chip and ledger have there
abbrev pub reply_of : Option (ℕ × (ℕ × ℕ)) → Reply
reply_of (Some p) = Differs p.0
reply_of None = Same

abbrev pub differing : ℕ → ℕ × (ℕ × ℕ) → Bool
differing m p = chip_differs m p.0 p.1.0 p.1.1

module _ (m : ℕ) (x y : List ℕ) where
  found_from : (n a : ℕ) → a + n ≡ length x → a + n ≡ length y → reply_of (find (differing m) (enumerate_from a (zip (drop a x) (drop a y)))) ≡ compare_from m x y a n
  unfolding compare_from
  found_from zero a ex ey = rw (drop_all a x (omega arith)) refl
  found_from (suc n) a ex ey =
      let hx : a < length x = omega arith in
      let hy : a < length y = omega arith in
      let rest = found_from n (suc a) (omega arith) (omega arith) in
      rw (drop-cons x a 0, drop-cons y a 0, add-one a) (go (chip_differs m a (get_or x a 0) (get_or y a 0)) rest)
    where
      go : (t : Bool) → reply_of (find (differing m) (enumerate_from (suc a) (zip (drop (suc a) x) (drop (suc a) y)))) ≡ compare_from m x y (suc a) n →
          reply_of (cond t (Some (a, (get_or x a 0, get_or y a 0))) (find (differing m) (enumerate_from (suc a) (zip (drop (suc a) x) (drop (suc a) y)))))
          ≡ elim t [ true ↦ Differs a | false ↦ compare_from m x y (suc a) n ]
      go true e = refl
      go false e = e

  pub found : length x ≡ 908 → length y ≡ 908 → reply_of (find (differing m) (enumerate_from 0 (zip x y))) ≡ compare_from m x y 0 908
  found ex ey = found_from 908 0 (sym ex) (sym ey)
