-- How many registers of a record differ: the writes of its pending list are right and leave no more of them, and the first of them, cut or
-- not, leaves fewer. `ok a` says that an address may be written, there are n of them, and s is the settings.
-- Assumes nothing.
use Rattle.std.specs.Prelude.{◌≡◌, refl, Bool, true, false, cond, List, [], ◌∷◌, ◌++◌, map, eqb, length, get_or}
use Rattle.std.proofs.Common.{sym, ap, ◌∙◌, subst, inl, inr, true≢false}
use Rattle.std.proofs.lemmas.Bool.{false≢true}
use Prim.Native.Nat.{ℕ, zero, suc, ◌+◌, ◌-◌, ◌≤◌, ◌<◌}
use Rattle.std.proofs.Math.Decide.{ℕ_discrete, dec_lt}
use native.Mathlib.Omega.{arith}
use borrow.Author.Tests.{eq-eqb, ne_eqb, eqb-false}
use Rattle.std.proofs.lemmas.List.Edits.{sets}
use Rattle.std.proofs.Math.Seq.{length-sets}
use Rattle.burst.specs.Burst.{Burst}
use Rattle.plan.specs.Lists.{All, sets_outside, sets_inside}
use Rattle.plan.specs.Plan.{Write, plan}
use Rattle.plan.specs.Writes.{AllGood, Needed}
use Rattle.plan.proofs.PlanLaws.{plan_needed}
use Rattle.plan.specs.Update.{value_at, marks_for, on_by, View, same_at, seen, data_of, enable_write, enable, update_by, update_for, store_all, Layout}
use Rattle.plan.proofs.UpdateLaws.{on_same, one_is, zero_is, dirty_differs, data_length, data_at, plan_ok, update_on, update_off}
use Rattle.plan.specs.Portion.{Cut}
use Rattle.plan.proofs.PortionLaws.{cut_at}
use Rattle.bus_demand.specs.Finishing.{differing}

-- ---- How many differ

module _ (s x y : List ℕ) where
  abbrev apart : List ℕ → ℕ → ℕ
  apart z a = cond (eqb (value_at z a) (value_at s a)) 0 1

  kept_le : (a : ℕ) → (value_at x a ≡ value_at s a → value_at y a ≡ value_at s a) → apart y a ≤ apart x a
  kept_le a f = go (ℕ_discrete (value_at x a) (value_at s a))
    where
      most : (c : Bool) → cond c 0 1 ≤ 1
      most true = omega arith
      most false = omega arith

      go : Dec (value_at x a ≡ value_at s a) → apart y a ≤ apart x a
      go (yes e) = rw (eq-eqb (value_at x a) (value_at s a) e, eq-eqb (value_at y a) (value_at s a) (f e)) (omega arith)
      go (no e) = rw (ne_eqb (value_at x a) (value_at s a) e) (most (eqb (value_at y a) (value_at s a)))

  -- where every register that is right stays right no more differ,
  pub differing_le : ((a : ℕ) → value_at x a ≡ value_at s a → value_at y a ≡ value_at s a) → (n : ℕ) → differing s y n ≤ differing s x n
  unfolding differing
  differing_le f zero = omega arith
  differing_le f (suc n) = omega (arith, differing_le f n, kept_le n (f n))

  -- and where one that was wrong is right then, fewer do
  pub differing_less : ((a : ℕ) → value_at x a ≡ value_at s a → value_at y a ≡ value_at s a) → (n a : ℕ) → a < n →
      (value_at x a ≡ value_at s a → ⊥) → value_at y a ≡ value_at s a → suc (differing s y n) ≤ differing s x n
  unfolding differing
  differing_less f zero a h d e = absurd (omega arith)
  differing_less f (suc n) a h d e = go (differing_less f n a) (ℕ_discrete a n)
    where
      here : a ≡ n → suc (apart y n) ≤ apart x n
      here q =
          rw (
            eq-eqb (value_at y n) (value_at s n) (subst (λ (k : ℕ). value_at y k ≡ value_at s k) q e),
            ne_eqb (value_at x n) (value_at s n) (subst (λ (k : ℕ). value_at x k ≡ value_at s k → ⊥) q d),
          ) (omega arith)

      go : (a < n → (value_at x a ≡ value_at s a → ⊥) → value_at y a ≡ value_at s a → suc (differing s y n) ≤ differing s x n) →
          Dec (a ≡ n) → suc (differing s y (suc n)) ≤ differing s x (suc n)
      go r (yes q) = omega (arith, differing_le f n, here q)
      go r (no q) = omega (arith, r (omega arith) d e, kept_le n (f n))

-- one that differs is counted
pub differing_some : (s x : List ℕ) (n a : ℕ) → a < n → (value_at x a ≡ value_at s a → ⊥) → 1 ≤ differing s x n
differing_some s x n a h d = omega (arith, differing_less s x s (λ k e. refl) n a h d refl)

-- ---- Writes of the settings' bytes

-- data for addresses that there are, and each byte is the settings'
pub record Right (n : ℕ) (s : List ℕ) (b : Burst) : Type 0 where
  pub inside : b.start + length b.bytes ≤ n
  pub some : 0 < length b.bytes
  pub are : (i : ℕ) → i < length b.bytes → get_or b.bytes i 0 ≡ value_at s (b.start + i)

-- so of a cut write
pub cut_right : (n : ℕ) (s : List ℕ) (x b : Burst) → Cut x b → Right n s b → Right n s x
cut_right n s x b c r = record {
  inside = omega (arith, c.start, c.fewer, r.inside);
  some = c.some;
  are = λ i h. cut_at x b c i h ∙ r.are i (omega (arith, c.fewer)) ∙ ap (λ (a : ℕ). value_at s (a + i)) (sym c.start);
}

module _ (n : ℕ) (s : List ℕ) where
  module _ (b : Burst) (r : Right n s b) (image : List ℕ) (size : length image ≡ n) where
    abbrev after : List ℕ
    after = sets image b.start b.bytes

    stored : (i : ℕ) → i < length b.bytes → value_at after (b.start + i) ≡ value_at s (b.start + i)
    stored i h = sets_inside b.bytes image b.start i h (omega (arith, r.inside)) ∙ r.are i h

    stored_first : value_at after b.start ≡ value_at s b.start
    stored_first = subst (λ (a : ℕ). value_at after a ≡ value_at s a) (omega arith) (stored 0 r.some)

    stored_kept : (a : ℕ) → value_at image a ≡ value_at s a → value_at after a ≡ value_at s a
    stored_kept a e = go (dec_lt a b.start) (dec_lt a (b.start + length b.bytes))
      where
        go : Dec (a < b.start) → Dec (a < b.start + length b.bytes) → value_at after a ≡ value_at s a
        go (yes p) q = sets_outside b.bytes image b.start a (inl p) ∙ e
        go (no p) (no q) = sets_outside b.bytes image b.start a (inr (omega arith)) ∙ e
        go (no p) (yes q) = subst (λ (k : ℕ). value_at after k ≡ value_at s k) (omega arith) (stored (a - b.start) (omega arith))

  -- a register that is right stays right,
  pub store_kept : (bs : List Burst) → All (Right n s) bs → (image : List ℕ) → length image ≡ n → (a : ℕ) →
      value_at image a ≡ value_at s a → value_at (store_all bs image) a ≡ value_at s a
  store_kept [] r image size a e = e
  store_kept (b ∷ bs) r image size a e =
      store_kept bs r.1 (sets image b.start b.bytes) (length-sets image b.start b.bytes ∙ size) a
      (stored_kept b r.0 image size a e)

  -- and that at which the first write starts is right then
  pub store_first : (b : Burst) (bs : List Burst) → All (Right n s) (b ∷ bs) → (image : List ℕ) → length image ≡ n →
      value_at (store_all (b ∷ bs) image) b.start ≡ value_at s b.start
  store_first b bs r image size =
      store_kept bs r.1 (sets image b.start b.bytes) (length-sets image b.start b.bytes ∙ size) b.start
      (stored_first b r.0 image size)

-- ---- An update's list

-- the first write of a list starts at a register that differs
abbrev pub FirstDiffers : List ℕ → List ℕ → List Burst → Type 0
FirstDiffers s image [] = Unit
FirstDiffers s image (b ∷ bs) = value_at image b.start ≡ value_at s b.start → ⊥

module _ (ok : ℕ → Bool) (n : ℕ) (s : List ℕ) (r : Layout ok n s) (small : value_at s 0 ≤ 1) where
  good_right : (ws : List Write) → AllGood ok n ws → All (Right n s) (map (data_of s) ws)
  good_right [] g = tt
  good_right (w ∷ ws) g =
      let l : w.start + w.len ≤ length s = omega (arith, g.0.fits, r.size) in
      let k = data_length s w l in (
        record {
          inside = omega (arith, k, g.0.fits);
          some = omega (arith, k, g.0.some);
          are = λ i h. data_at s w l i (omega (arith, k));
        },
        good_right ws g.1,
      )

  enable_right : (v : ℕ) → v ≡ value_at s 0 → Right n s (enable_write v)
  enable_right v e = record {
    inside = omega (arith, r.some);
    some = omega arith;
    are = λ i h. let q : i ≡ 0 = omega arith in rw q e;
  }

  -- every data byte of an update is the settings', whatever is known of the chip
  pub update_right : (v : View) → All (Right n s) (update_for ok n s v)
  update_right v = go (on_by (value_at s)) refl
    where
      planned : All (Right n s) (map (data_of s) (plan (marks_for ok v.same) n))
      planned = good_right (plan (marks_for ok v.same) n) (plan_ok ok n s r v)

      on : on_by (value_at s) ≡ true → (c : Bool) → All (Right n s) (enable c ++ map (data_of s) (plan (marks_for ok v.same) n))
      on o true = planned
      on o false = (enable_right 1 (sym (one_is (value_at s 0) o small)), planned)

      off : on_by (value_at s) ≡ false → (c : Bool) → All (Right n s) (update_by false v.sure c [])
      off o true = (enable_right 0 (sym (zero_is (value_at s 0) o small)), tt)
      off o false = tt

      go : (w : Bool) → on_by (value_at s) ≡ w → All (Right n s) (update_for ok n s v)
      go true o = subst (All (Right n s)) (sym (update_on ok n s r v o)) (on o v.sure)
      go false o = subst (All (Right n s)) (sym (update_off ok n s r v o)) (off o v.perhaps)

  -- and its first write starts at a register that differs
  pub update_first : (image : List ℕ) → FirstDiffers s image (update_for ok n s (seen (value_at s) (value_at image)))
  update_first image = go (on_by (value_at s)) refl
    where
      ws : List Write
      ws = plan (marks_for ok (same_at (value_at s) (value_at image))) n

      planned : (xs : List Write) → Needed (marks_for ok (same_at (value_at s) (value_at image))) xs → FirstDiffers s image (map (data_of s) xs)
      planned [] q = tt
      planned (w ∷ xs) q =
          eqb-false (value_at image w.start) (value_at s w.start)
          (dirty_differs ok (same_at (value_at s) (value_at image)) w.start q.0).differs

      unlike : (x y : Bool) → on_by (value_at image) ≡ x → on_by (value_at s) ≡ y → (x ≡ y → ⊥) → value_at image 0 ≡ value_at s 0 → ⊥
      unlike x y e f d q = d (sym e ∙ on_same (value_at image) (value_at s) q ∙ f)

      on : on_by (value_at s) ≡ true → (c : Bool) → on_by (value_at image) ≡ c → FirstDiffers s image (enable c ++ map (data_of s) ws)
      on o true e = planned ws (plan_needed (marks_for ok (same_at (value_at s) (value_at image))) n)
      on o false e = unlike false true e o false≢true

      off : on_by (value_at s) ≡ false → (c : Bool) → on_by (value_at image) ≡ c → FirstDiffers s image (update_by false c c [])
      off o true e = unlike true false e o true≢false
      off o false e = tt

      go : (w : Bool) → on_by (value_at s) ≡ w → FirstDiffers s image (update_for ok n s (seen (value_at s) (value_at image)))
      go true o =
          subst (FirstDiffers s image) (sym (update_on ok n s r (seen (value_at s) (value_at image)) o)) (on o (on_by (value_at image)) refl)
      go false o =
          subst (FirstDiffers s image) (sym (update_off ok n s r (seen (value_at s) (value_at image)) o)) (off o (on_by (value_at image)) refl)
