-- Addresses that may not be written: a list leaves them. And a lock makes holes of two neighbouring addresses that need not be written: an
-- update has as many bus bytes as without it, and at most one write more.
-- Assumes nothing.
use Rattle.std.specs.Prelude.{◌≡◌, refl, ◌⊎◌, Bool, true, false, List, [], ◌∷◌, map, ℕ, zero, suc, ◌+◌, ◌≤◌, ◌<◌, min, length}
use Rattle.std.proofs.Common.{sym, ap, ap₂, ◌∙◌, subst, inl, inr, true≢false}
use Rattle.std.proofs.Math.Decide.{dec_lt}
use native.Mathlib.Omega.{arith}
use Rattle.std.proofs.Math.ListN.{length-map}
use Rattle.std.proofs.lemmas.List.Edits.{sets}
use Rattle.burst.specs.Burst.{Burst, bus_bytes}
use Rattle.plan.specs.Lists.{sets_outside}
use Rattle.plan.specs.Plan.{Mark, hole, clean, dirty, Write, cost, plan}
use Rattle.plan.specs.Writes.{Good, AllGood}
use Rattle.plan.specs.WriteLaws.{cost_three}
use Rattle.plan.specs.Weight.{total, gap, gap_after, weight, weight_at}
use Rattle.plan.proofs.PlanLaws.{plan_cost}
use Rattle.plan.specs.Update.{value_at, mark_at, marks_for, on_by, View, data_of, update_by, update_for, store_all, write_of, Layout}
use Rattle.plan.proofs.UpdateLaws.{bus_cost, marks_at_lem, update_off, update_cost}

-- ---- what a list leaves

-- a write to addresses that may be written has no other one inside
pub good_apart : (ok : ℕ → Bool) (n : ℕ) (w : Write) → Good ok n w → (a : ℕ) → ok a ≡ false → (a < w.start) ⊎ (w.start + w.len ≤ a)
good_apart ok n w g a e = go (dec_lt a w.start) (dec_lt a (w.start + w.len))
  where
    go : Dec (a < w.start) → Dec (a < w.start + w.len) → (a < w.start) ⊎ (w.start + w.len ≤ a)
    go (yes l) u = inl l
    go (no l) (no u) = inr (omega arith)
    go (no l) (yes u) = absurd (true≢false (sym (g.each a (omega arith) u) ∙ e))

-- so that an image keeps the other bytes
pub stored_outside : (ok : ℕ → Bool) (n : ℕ) (bs : List Burst) → AllGood ok n (map write_of bs) → (image : List ℕ) (a : ℕ) → ok a ≡ false →
    value_at (store_all bs image) a ≡ value_at image a
stored_outside ok n [] g image a e = refl
stored_outside ok n (b ∷ bs) g image a e =
    stored_outside ok n bs g.1 (sets image b.start b.bytes) a e
    ∙ sets_outside b.bytes image b.start a (good_apart ok n (write_of b) g.0 a e)

-- ---- what a lock costs

-- as many, or one more
abbrev Counts : ℕ → ℕ → Type 0
Counts x y = (x ≤ y) × (y ≤ suc x)

-- g is f with two neighbouring clean addresses made holes
pub record Holed (f g : ℕ → Mark) (p : ℕ) : Type 0 where
  pub first : f p ≡ clean
  pub second : f (suc p) ≡ clean
  pub first_hole : g p ≡ hole
  pub second_hole : g (suc p) ≡ hole
  pub else_same : (a : ℕ) → (a ≡ p → ⊥) → (a ≡ suc p → ⊥) → g a ≡ f a

-- The gaps x of f and y of g at an address behind the holes, the weights s and t of the addresses before it by bus bytes, and
-- u and v by bus bytes and writes together: a gap of 2 may be one of 3 to g, and this costs it one write at most.
record Behind (x y s t u v : ℕ) : Type 0 where
  gap_least : x ≤ y
  gap_like : min 2 x ≡ min 2 y
  gap_small : y ≤ 3
  bytes : t ≡ s
  least : u ≤ v
  most : v + y ≤ suc (u + x)

-- an address that both mark alike keeps it so
behind_step : (m : Mark) (x y s t u v : ℕ) → Behind x y s t u v →
    Behind (gap_after m x) (gap_after m y) (s + weight_at 2 m x) (t + weight_at 2 m y) (u + weight_at 3 m x) (v + weight_at 3 m y)
behind_step hole x y s t u v k = record {
  gap_least = omega arith;
  gap_like = refl;
  gap_small = omega arith;
  bytes = omega (arith, k.bytes);
  least = omega (arith, k.least);
  most = omega (arith, k.most, k.gap_least);
}
behind_step clean x y s t u v k = record {
  gap_least = omega (arith, k.gap_least);
  gap_like = omega (arith, k.gap_like);
  gap_small = omega arith;
  bytes = omega (arith, k.bytes);
  least = omega (arith, k.least);
  most = omega (arith, k.most, k.gap_least, k.gap_like, k.gap_small);
}
behind_step dirty x y s t u v k = record {
  gap_least = omega arith;
  gap_like = refl;
  gap_small = omega arith;
  bytes = omega (arith, k.bytes, k.gap_least, k.gap_like, k.gap_small);
  least = omega (arith, k.least, k.gap_least);
  most = omega (arith, k.most, k.gap_least, k.gap_small);
}

-- by bus bytes and writes together, each write weighs one more
count_weight : (mark : ℕ → Mark) (n : ℕ) → total (weight 3 mark) n ≡ total (weight 2 mark) n + length (plan mark n)
count_weight mark n =
    omega (
      arith,
      plan_cost mark n 2 (omega arith) (omega arith),
      plan_cost mark n 3 (omega arith) (omega arith),
      cost_three (plan mark n),
    )

module _ (f g : ℕ → Mark) (p : ℕ) (h : Holed f g p) where
  -- before the holes no mark differs,
  mark_before : (a : ℕ) → a < p → g a ≡ f a
  mark_before a l = h.else_same a (λ e. omega arith) (λ e. omega arith)

  -- nor a gap,
  gap_before : (a : ℕ) → a ≤ p → gap g a ≡ gap f a
  gap_before zero l = refl
  gap_before (suc a) l = ap₂ gap_after (mark_before a (omega arith)) (gap_before a (omega arith))

  -- nor what the addresses weigh
  total_before : (c a : ℕ) → a ≤ p → total (weight c g) a ≡ total (weight c f) a
  total_before c zero l = refl
  total_before c (suc a) l =
      ap₂ ◌+◌ (total_before c a (omega arith)) (ap₂ (weight_at c) (mark_before a (omega arith)) (gap_before a (omega arith)))

  -- with the first hole they weigh the same, for it weighs as little as a clean address,
  total_at : (c : ℕ) → total (weight c g) (suc p) ≡ total (weight c f) (suc p)
  total_at c =
      omega (
        arith,
        total_before c p (omega arith),
        ap (λ (m : Mark). weight_at c m (gap f p)) h.first,
        ap (λ (m : Mark). weight_at c m (gap g p)) h.first_hole,
      )

  -- and with the second
  total_past : (c : ℕ) → total (weight c g) (suc (suc p)) ≡ total (weight c f) (suc (suc p))
  total_past c =
      omega (
        arith,
        total_at c,
        ap (λ (m : Mark). weight_at c m (gap f (suc p))) h.second,
        ap (λ (m : Mark). weight_at c m (gap g (suc p))) h.second_hole,
      )

  -- so are the gaps and weights at an address
  abbrev BehindAt : ℕ → Type 0
  BehindAt a =
      Behind (gap f a) (gap g a) (total (weight 2 f) a) (total (weight 2 g) a) (total (weight 3 f) a) (total (weight 3 g) a)

  -- right behind the holes the gap of g is 3,
  gap_holes : gap g (suc (suc p)) ≡ 3
  gap_holes = ap (λ (m : Mark). gap_after m (gap g (suc p))) h.second_hole

  -- and that of f is 2 or 3,
  gap_cleans : gap f (suc (suc p)) ≡ min 3 (2 + gap f p)
  gap_cleans =
      omega (
        arith,
        ap (λ (m : Mark). gap_after m (gap f p)) h.first,
        ap (λ (m : Mark). gap_after m (gap f (suc p))) h.second,
      )

  -- so that they are as said there,
  behind_first : BehindAt (suc (suc p))
  behind_first = record {
    gap_least = omega (arith, gap_holes, gap_cleans);
    gap_like = omega (arith, gap_holes, gap_cleans);
    gap_small = omega (arith, gap_holes);
    bytes = total_past 2;
    least = omega (arith, total_past 3);
    most = omega (arith, total_past 3, gap_holes, gap_cleans);
  }

  -- and further on
  behind : (a : ℕ) → suc p < a → BehindAt a
  behind zero l = absurd (omega arith)
  behind (suc a) l = go (dec_lt (suc p) a) (behind a)
    where
      go : Dec (suc p < a) → (suc p < a → BehindAt a) → BehindAt (suc a)
      go (yes b) k =
          rw (h.else_same a (λ e. omega arith) (λ e. omega arith))
          (behind_step (f a) (gap f a) (gap g a) (total (weight 2 f) a) (total (weight 2 g) a) (total (weight 3 f) a) (total (weight 3 g) a) (k b))
      go (no b) k = let e : suc (suc p) ≡ suc a = omega arith in subst BehindAt e behind_first

  -- The weights of the addresses below n: equal by bus bytes, and by bus bytes and writes together equal or one more.
  record Like (n : ℕ) : Type 0 where
    bytes : total (weight 2 g) n ≡ total (weight 2 f) n
    both : Counts (total (weight 3 f) n) (total (weight 3 g) n)

  -- so they are if they are equal by both,
  equal : (n : ℕ) → ((c : ℕ) → total (weight c g) n ≡ total (weight c f) n) → Like n
  equal n e = record { bytes = e 2; both = omega (arith, e 3) }

  -- and so they are for every n
  like : (n : ℕ) → Like n
  like n = go (dec_lt p n) (dec_lt (suc p) n)
    where
      go : Dec (p < n) → Dec (suc p < n) → Like n
      go (no b) c = equal n (λ x. total_before x n (omega arith))
      go (yes b) (no c) = subst Like (omega arith) (equal (suc p) total_at)
      go (yes b) (yes c) =
          let k = behind n c in
          record { bytes = k.bytes; both = omega (arith, k.least, k.most, k.gap_least) }

  -- so the writes of the plans
  holed_counts : (n : ℕ) → Counts (length (plan f n)) (length (plan g n))
  holed_counts n = omega (arith, (like n).bytes, (like n).both, count_weight f n, count_weight g n)

  -- the plan has as many bus bytes as without the holes,
  pub holed_cost : (n : ℕ) → cost (plan g n) ≡ cost (plan f n)
  holed_cost n =
      omega (arith, (like n).bytes, plan_cost f n 2 (omega arith) (omega arith), plan_cost g n 2 (omega arith) (omega arith))

  -- and as many writes, or one more
  pub holed_least : (n : ℕ) → length (plan f n) ≤ length (plan g n)
  holed_least n = (holed_counts n).0

  pub holed_count : (n : ℕ) → length (plan g n) ≤ suc (length (plan f n))
  holed_count n = (holed_counts n).1

-- `may` is `ok` with two neighbouring addresses from 001h up that may no longer be written
pub record LockedAt (ok may : ℕ → Bool) (p : ℕ) : Type 0 where
  pub past : 0 < p
  pub first : ok p ≡ true
  pub second : ok (suc p) ≡ true
  pub first_locked : may p ≡ false
  pub second_locked : may (suc p) ≡ false
  pub else_same : (a : ℕ) → (a ≡ p → ⊥) → (a ≡ suc p → ⊥) → may a ≡ ok a

-- updates have as many transactions, or one more, where their plans have
update_counts : (w o c : Bool) (xs ys : List Burst) → Counts (length xs) (length ys) →
    Counts (length (update_by w o c xs)) (length (update_by w o c ys))
update_counts false o true xs ys e = omega arith
update_counts false o false xs ys e = omega arith
update_counts true true c xs ys e = e
update_counts true false c xs ys e = omega arith

module _ (ok may : ℕ → Bool) (p : ℕ) (k : LockedAt ok may p) where
  -- 000h is no such address
  pub locked_layout : (n : ℕ) (settings : List ℕ) → Layout ok n settings → Layout may n settings
  locked_layout n settings r = record {
    some = r.some;
    enable_ok = k.else_same 0 (λ e. omega (arith, k.past)) (λ e. omega arith) ∙ r.enable_ok;
    size = r.size;
  }

  -- where both have the wanted byte they are clean addresses made holes
  pub locked_marks : (same : ℕ → Bool) → same p ≡ true → same (suc p) ≡ true → Holed (marks_for ok same) (marks_for may same) p
  locked_marks same s t = record {
    first = marks_at_lem ok same p k.past ∙ ap₂ mark_at k.first s;
    second = ap₂ mark_at k.second t;
    first_hole = marks_at_lem may same p k.past ∙ ap (λ (b : Bool). mark_at b (same p)) k.first_locked;
    second_hole = ap (λ (b : Bool). mark_at b (same (suc p))) k.second_locked;
    else_same = other;
  }
    where
      other : (a : ℕ) → (a ≡ p → ⊥) → (a ≡ suc p → ⊥) → marks_for may same a ≡ marks_for ok same a
      other zero x y = refl
      other (suc a) x y = ap (λ (b : Bool). mark_at b (same (suc a))) (k.else_same (suc a) x y)

  module _ (n : ℕ) (settings : List ℕ) (v : View) (s : v.same p ≡ true) (t : v.same (suc p) ≡ true) where
    -- the transactions of both
    locked_counts : Counts (length (update_for ok n settings v)) (length (update_for may n settings v))
    unfolding update_for
    locked_counts =
        update_counts (on_by (value_at settings)) v.sure v.perhaps
        (map (data_of settings) (plan (marks_for ok v.same) n)) (map (data_of settings) (plan (marks_for may v.same) n))
        (omega (
          arith,
          length-map (plan (marks_for ok v.same) n) (data_of settings),
          length-map (plan (marks_for may v.same) n) (data_of settings),
          holed_counts (marks_for ok v.same) (marks_for may v.same) p (locked_marks v.same s t) n,
        ))

    -- the update has as many bus bytes as without the lock,
    pub locked_bytes : Layout ok n settings → bus_bytes (update_for may n settings v) ≡ bus_bytes (update_for ok n settings v)
    locked_bytes r = go (on_by (value_at settings)) refl
      where
        l : Layout may n settings
        l = locked_layout n settings r

        go : (w : Bool) → on_by (value_at settings) ≡ w → bus_bytes (update_for may n settings v) ≡ bus_bytes (update_for ok n settings v)
        go true o =
            omega (
              arith,
              bus_cost (update_for may n settings v),
              bus_cost (update_for ok n settings v),
              update_cost may n settings l v 2 o,
              update_cost ok n settings r v 2 o,
              holed_cost (marks_for ok v.same) (marks_for may v.same) p (locked_marks v.same s t) n,
            )
        go false o = ap bus_bytes (update_off may n settings l v o ∙ sym (update_off ok n settings r v o))

    -- and as many writes, or one more
    pub locked_least : length (update_for ok n settings v) ≤ length (update_for may n settings v)
    locked_least = locked_counts.0

    pub locked_count : length (update_for may n settings v) ≤ suc (length (update_for ok n settings v))
    locked_count = locked_counts.1
