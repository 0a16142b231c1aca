-- No list of writes to writable addresses that sends every dirty address costs less than the plan, in any order, overlapping or
-- not; with the same bytes none has fewer writes; and more dirty addresses never cost less.
-- Assumes nothing.
use Rattle.std.specs.Prelude.{◌≡◌, refl, ◌⊎◌, Bool, true, false, not, ◌&&◌, List, [], ◌∷◌, ℕ, zero, suc, ◌+◌, ◌-◌, ◌≤◌, ◌<◌, min, leb, ltb, length}
use Rattle.std.proofs.Common.{inl, inr, add-zero, add-suc, arith, le-leb, lt-ltb, le-ltb}
use Rattle.std.proofs.lemmas.Bool.{false≢true, lt-leb}
use Rattle.plan.specs.Plan.{Mark, hole, clean, dirty, writable_by, Write, cost, cost_by, plan}
use Rattle.plan.specs.Writes.{Good, AllGood, Inside, Sent, SendsAll}
use Rattle.plan.specs.WriteLaws.{cost_three}
use Rattle.plan.specs.Weight.{total, gap, gap_after, weight, weight_at, interval}
use Rattle.plan.proofs.PlanLaws.{plan_cost}

-- ---- what is left to send

abbrev count : Bool → ℕ → ℕ
count true k = k
count false k = 0

-- the weight of the addresses of which d holds
abbrev left : ℕ → (ℕ → Mark) → (ℕ → Bool) → ℕ → ℕ
left h mark d n = total (λ a. count (d a) (weight h mark a)) n

count_more : (b c : Bool) (k : ℕ) → (b ≡ true → c ≡ true) → count b k ≤ count c k
count_more true true k f = omega arith
count_more true false k f = absurd (false≢true (f refl))
count_more false c k f = omega arith

count_most : (b : Bool) (k : ℕ) → count b k ≤ k
count_most true k = omega arith
count_most false k = omega arith

module _ (h : ℕ) (mark : ℕ → Mark) (d rest : ℕ → Bool) where
  left_more : (n : ℕ) → ((a : ℕ) → a < n → d a ≡ true → rest a ≡ true) → left h mark d n ≤ left h mark rest n
  left_more zero f = omega arith
  left_more (suc n) f =
      omega (arith, left_more n (λ a l. f a (omega arith)), count_more (d n) (rest n) (weight h mark n) (f n (omega arith)))

  left_within : (s : ℕ) → ((a : ℕ) → a < s → d a ≡ true → rest a ≡ true) → (i : ℕ) →
      left h mark d (s + i) + total (weight h mark) s ≤ left h mark rest (s + i) + total (weight h mark) (s + i)
  left_within s f zero = rw add-zero (omega (arith, left_more s f))
  left_within s f (suc i) = rw add-suc (omega (arith, left_within s f i, count_most (d (s + i)) (weight h mark (s + i))))

  left_beyond : (s l : ℕ) → ((a : ℕ) → a < s → d a ≡ true → rest a ≡ true) → ((a : ℕ) → s + l ≤ a → d a ≡ true → rest a ≡ true) → (k : ℕ) →
      left h mark d (s + l + k) + total (weight h mark) s ≤ left h mark rest (s + l + k) + total (weight h mark) (s + l)
  left_beyond s l f g zero = rw add-zero (left_within s f l)
  left_beyond s l f g (suc k) =
      rw add-suc
      (omega (
        arith,
        left_beyond s l f g k,
        count_more (d (s + l + k)) (rest (s + l + k)) (weight h mark (s + l + k)) (g (s + l + k) (omega arith)),
      ))

  -- what one write sends weighs at most what it costs
  left_cost : (n : ℕ) (w : Write) → Good (writable_by mark) n w →
      ((a : ℕ) → a < w.start → d a ≡ true → rest a ≡ true) → ((a : ℕ) → w.start + w.len ≤ a → d a ≡ true → rest a ≡ true) →
      left h mark d n ≤ left h mark rest n + (h + w.len)
  left_cost n w g below above =
      let e : w.start + w.len + (n - (w.start + w.len)) ≡ n = omega (arith, g.fits) in
      let q = rw e at (left_beyond w.start w.len below above (n - (w.start + w.len))) in
      omega (arith, q, interval h mark w.start w.len (λ i l. g.each (w.start + i) (omega arith) (omega arith)))

-- ---- a list of writes that sends what is left

-- those of d that w does not send
abbrev without : (ℕ → Bool) → Write → ℕ → Bool
without d w a = not (leb w.start a && ltb a (w.start + w.len)) && d a

module _ (d : ℕ → Bool) (w : Write) (a : ℕ) where
  without_below : a < w.start → d a ≡ true → without d w a ≡ true
  without_below l e = rw (lt-leb w.start a l) e

  without_above : w.start + w.len ≤ a → d a ≡ true → without d w a ≡ true
  without_above l e = go (leb w.start a)
    where
      go : (b : Bool) → (not (b && ltb a (w.start + w.len)) && d a) ≡ true
      go true = rw (le-ltb a (w.start + w.len) l) e
      go false = e

  without_inside : Inside w a → without d w a ≡ true → ⊥
  without_inside i e =
      let z : false ≡ true = rw (le-leb w.start a i.0, lt-ltb a (w.start + w.len) i.1) at e in
      false≢true z

  without_is : without d w a ≡ true → d a ≡ true
  without_is e = go (leb w.start a && ltb a (w.start + w.len)) e
    where
      go : (b : Bool) → (not b && d a) ≡ true → d a ≡ true
      go true q = absurd (false≢true q)
      go false q = q

module _ (h : ℕ) (mark : ℕ → Mark) (n : ℕ) where
  none_left : (d : ℕ → Bool) (k : ℕ) → ((a : ℕ) → a < k → d a ≡ true → ⊥) → left h mark d k ≡ 0
  none_left d zero f = refl
  none_left d (suc k) f = omega (arith, none_left d k (λ a l. f a (omega arith)), none (d k) (f k (omega arith)))
    where
      none : (b : Bool) → (b ≡ true → ⊥) → count b (weight h mark k) ≡ 0
      none true f = absurd (f refl)
      none false f = refl

  left_covered : (ws : List Write) → AllGood (writable_by mark) n ws → (d : ℕ → Bool) → ((a : ℕ) → a < n → d a ≡ true → Sent ws a) →
      left h mark d n ≤ cost_by h ws
  left_covered [] g d f = omega (arith, none_left d n f)
  left_covered (w ∷ ws) g d f =
      omega (
        arith,
        left_cost h mark d (without d w) n w g.0 (without_below d w) (without_above d w),
        left_covered ws g.1 (without d w) (λ a l e. rest a e (f a l (without_is d w a e))),
      )
    where
      rest : (a : ℕ) → without d w a ≡ true → Inside w a ⊎ Sent ws a → Sent ws a
      rest a e (inl i) = absurd (without_inside d w a i e)
      rest a e (inr k) = k

-- ---- the laws

abbrev is_dirty : Mark → Bool
is_dirty hole = false
is_dirty clean = false
is_dirty dirty = true

dirty_is : (m : Mark) → is_dirty m ≡ true → m ≡ dirty
dirty_is hole e = absurd (false≢true e)
dirty_is clean e = absurd (false≢true e)
dirty_is dirty e = refl

count_dirty : (h : ℕ) (m : Mark) (g : ℕ) → count (is_dirty m) (weight_at h m g) ≡ weight_at h m g
count_dirty h hole g = refl
count_dirty h clean g = refl
count_dirty h dirty g = refl

left_all : (h : ℕ) (mark : ℕ → Mark) (n : ℕ) → left h mark (λ a. is_dirty (mark a)) n ≡ total (weight h mark) n
left_all h mark zero = refl
left_all h mark (suc n) = omega (arith, left_all h mark n, count_dirty h (mark n) (gap mark n))

module _ (mark : ℕ → Mark) (n : ℕ) (ws : List Write) (good : AllGood (writable_by mark) n ws) (sends : SendsAll mark n ws) where
  -- for bus bytes, and for bus bytes and writes together
  pub plan_cheapest_by : (h : ℕ) → 2 ≤ h → h ≤ 3 → cost_by h (plan mark n) ≤ cost_by h ws
  plan_cheapest_by h lo hi =
      omega (
        arith,
        plan_cost mark n h lo hi,
        left_all h mark n,
        left_covered h mark n ws good (λ a. is_dirty (mark a)) (λ a l e. sends a l (dirty_is (mark a) e)),
      )

  pub plan_cheapest : cost (plan mark n) ≤ cost ws
  plan_cheapest = plan_cheapest_by 2 (omega arith) (omega arith)

  -- "With equal bytes this takes the fewer writes."
  pub plan_fewest : cost ws ≡ cost (plan mark n) → length (plan mark n) ≤ length ws
  plan_fewest e = omega (arith, plan_cheapest_by 3 (omega arith) (omega arith), cost_three ws, cost_three (plan mark n))

-- ---- more dirty addresses

-- the same address is writable in both, and dirty in the second if it is in the first
pub data Wider : Mark → Mark → Type 0 where
  hole_hole : Wider hole hole
  clean_clean : Wider clean clean
  clean_dirty : Wider clean dirty
  dirty_dirty : Wider dirty dirty

module _ (h : ℕ) where
  abbrev Least : ℕ → ℕ → ℕ → ℕ → Type 0
  Least t g u k = (t ≤ u) × (t + min h g ≤ u + min h k)

  least_step : (m o : Mark) (t g u k : ℕ) → Wider m o → Least t g u k →
      Least (t + weight_at h m g) (gap_after m g) (u + weight_at h o k) (gap_after o k)
  least_step m o t g u k hole_hole l = omega arith
  least_step m o t g u k clean_clean l = omega arith
  least_step m o t g u k clean_dirty l = omega arith
  least_step m o t g u k dirty_dirty l = omega arith

  least : (f g : ℕ → Mark) → ((a : ℕ) → Wider (f a) (g a)) → (n : ℕ) →
      Least (total (weight h f) n) (gap f n) (total (weight h g) n) (gap g n)
  least f g w zero = omega arith
  least f g w (suc n) =
      least_step (f n) (g n) (total (weight h f) n) (gap f n) (total (weight h g) n) (gap g n) (w n) (least f g w n)

-- more dirty addresses never cost less
pub plan_most : (f g : ℕ → Mark) → ((a : ℕ) → Wider (f a) (g a)) → (n : ℕ) → cost (plan f n) ≤ cost (plan g n)
plan_most f g w n =
    omega (arith, plan_cost f n 2 (omega arith) (omega arith), plan_cost g n 2 (omega arith) (omega arith), (least 2 f g w n).0)
