-- Laws of the update's list that need no chip: it depends on the chip's writable bytes alone, its data bytes are for writable
-- addresses and fit there, what it costs, and that it is short.
-- Assumes nothing.
use Rattle.std.specs.Prelude.{◌≡◌, Bool, ℕ, zero, suc, ◌+◌, ◌*◌, ◌%◌, ◌≤◌, ◌<◌, eqb, length, get_or, drop}
use Rattle.std.proofs.Math.Path.{refl}
use Rattle.std.proofs.Common.{sym, ap, ap₂, ◌∙◌, subst, arith, eqb-true, length-drop, length-take-le, get_or-take, get_or-drop}
use Rattle.std.proofs.Math.Bool.{true, false}
use Rattle.std.proofs.lemmas.Bool.{false≢true, eqb-false}
use mathlib.Core.List.{List, [], ◌∷◌, ◌++◌, map}
use Rattle.std.proofs.lemmas.List.{length-map}
use Rattle.burst.specs.Burst.{Burst, bus_bytes}
use Rattle.plan.specs.Lists.{All, all_weaken}
use Rattle.plan.specs.Plan.{dirty, writable, writable_by, Write, cost, cost_by, plan}
use Rattle.plan.specs.Writes.{Good, AllGood}
use Rattle.plan.specs.WriteLaws.{count_le_cost, good_weaken}
use Rattle.plan.proofs.PlanLaws.{plan_good, plan_small, plan_same}
use Rattle.plan.proofs.Cheapest.{Wider, hole_hole, clean_clean, clean_dirty, dirty_dirty, plan_most}
use Rattle.plan.specs.Update.{value_at, Agree, mark_at, marks_for, all_differ, on_by, View, same_at, seen, data_of, enable_write, enable, update_by, update_for, write_of, enable_cost, Layout}

-- ---- the bytes of a list on the bus are the cost of its writes

pub bus_cost : (bs : List Burst) → bus_bytes bs ≡ cost (map write_of bs)
bus_cost [] = refl
bus_cost (b ∷ bs) = omega (arith, bus_cost bs)

-- ---- the byte of 000h

-- the same byte is on in both
pub on_same : (f g : ℕ → ℕ) → f 0 ≡ g 0 → on_by f ≡ on_by g
on_same f g e = ap (λ (v : ℕ). eqb (v % 2) 1) e

-- a byte of 0 or 1 whose bit 0 is 1
pub one_is : (v : ℕ) → eqb (v % 2) 1 ≡ true → v ≤ 1 → v ≡ 1
one_is v e l = omega (arith, eqb-true (v % 2) 1 e)

-- and one whose bit 0 is 0
pub zero_is : (v : ℕ) → eqb (v % 2) 1 ≡ false → v ≤ 1 → v ≡ 0
zero_is v e l = omega (arith, eqb-false (v % 2) 1 e)

-- ---- marks and writable addresses

mark_writable : (b e : Bool) → b ≡ true → writable (mark_at b e) ≡ true
mark_writable true true t = refl
mark_writable true false t = refl
mark_writable false e t = absurd (false≢true t)

writable_mark : (b e : Bool) → writable (mark_at b e) ≡ true → b ≡ true
writable_mark true e t = refl
writable_mark false e t = t

mark_dirty : (b e : Bool) → mark_at b e ≡ dirty → (b ≡ true) × (e ≡ false)
mark_dirty true true d = let z : ◌≡◌ {A = ℕ} 0 1 = cc in absurd (omega arith)
mark_dirty true false d = (refl, refl)
mark_dirty false e d = let z : ◌≡◌ {A = ℕ} 0 1 = cc in absurd (omega arith)

dirty_mark : (b e : Bool) → b ≡ true → e ≡ false → mark_at b e ≡ dirty
dirty_mark true true t p = cc
dirty_mark true false t p = refl
dirty_mark false e t p = cc

module _ (ok same : ℕ → Bool) where
  -- the mark of an address from 001h up
  pub marks_at_lem : (a : ℕ) → 0 < a → marks_for ok same a ≡ mark_at (ok a) (same a)
  marks_at_lem zero z = absurd (omega arith)
  marks_at_lem (suc a) z = refl

  pub ok_mark : (a : ℕ) → ok a ≡ true → writable_by (marks_for ok same) a ≡ true
  ok_mark zero t = refl
  ok_mark (suc a) t = mark_writable (ok (suc a)) (same (suc a)) t

  pub mark_ok : ok 0 ≡ true → (a : ℕ) → writable_by (marks_for ok same) a ≡ true → ok a ≡ true
  mark_ok k zero t = k
  mark_ok k (suc a) t = writable_mark (ok (suc a)) (same (suc a)) t

  -- "the differing addresses from 001h up"
  pub record Differs (a : ℕ) : Type 0 where
    pub past : 0 < a
    pub may : ok a ≡ true
    pub differs : same a ≡ false

  -- are the dirty ones
  pub dirty_differs : (a : ℕ) → marks_for ok same a ≡ dirty → Differs a
  dirty_differs zero d = let z : ◌≡◌ {A = ℕ} 0 1 = cc in absurd (omega arith)
  dirty_differs (suc a) d =
      let q = mark_dirty (ok (suc a)) (same (suc a)) d in
      record { past = omega arith; may = q.0; differs = q.1 }

  pub differs_dirty : (a : ℕ) → Differs a → marks_for ok same a ≡ dirty
  differs_dirty a q = marks_at_lem a q.past ∙ dirty_mark (ok a) (same a) q.may q.differs

-- ---- the list depends on the chip's writable bytes alone

pub marks_same : (ok : ℕ → Bool) (n : ℕ) (f g : ℕ → Bool) → ((a : ℕ) → a < n → ok a ≡ true → f a ≡ g a) →
    (a : ℕ) → a < n → marks_for ok f a ≡ marks_for ok g a
marks_same ok n f g e zero l = refl
marks_same ok n f g e (suc a) l = go (ok (suc a)) (e (suc a) l)
  where
    go : (b : Bool) → (b ≡ true → f (suc a) ≡ g (suc a)) → mark_at b (f (suc a)) ≡ mark_at b (g (suc a))
    go true h = ap (mark_at true) (h refl)
    go false h = refl

-- so the list by the host's image is the list by the chip
pub update_same : (ok : ℕ → Bool) (n : ℕ) (settings : List ℕ) (f g : ℕ → ℕ) → 0 < n → ok 0 ≡ true → Agree ok n f g →
    update_for ok n settings (seen (value_at settings) f) ≡ update_for ok n settings (seen (value_at settings) g)
unfolding update_for
update_same ok n settings f g z k e =
    ap₂ (λ (o : Bool) (ws : List Write). update_by (on_by (value_at settings)) o o (map (data_of settings) ws))
    (on_same f g (e 0 z k))
    (plan_same (marks_for ok (same_at (value_at settings) f)) (marks_for ok (same_at (value_at settings) g)) n
    (marks_same ok n (same_at (value_at settings) f) (same_at (value_at settings) g) (λ a l q. ap (λ (x : ℕ). eqb x (value_at settings a)) (e a l q))))

-- ---- what is known is true

-- of a chip with the bytes `have`
pub record Allows (ok : ℕ → Bool) (n : ℕ) (want : ℕ → ℕ) (v : View) (have : ℕ → ℕ) : Type 0 where
  pub on : v.sure ≡ true → on_by have ≡ true
  pub right : (a : ℕ) → a < n → ok a ≡ true → v.same a ≡ true → have a ≡ want a

pub seen_allows : (ok : ℕ → Bool) (n : ℕ) (want have : ℕ → ℕ) → Allows ok n want (seen want have) have
seen_allows ok n want have = record { on = λ e. e; right = λ a l k e. eqb-true (have a) (want a) e }

-- ---- the data of a write

module _ (settings : List ℕ) (w : Write) (l : w.start + w.len ≤ length settings) where
  pub data_length : length (data_of settings w).bytes ≡ w.len
  data_length = length-take-le w.len (drop w.start settings) (omega (arith, length-drop w.start settings))

  pub data_at : (i : ℕ) → i < w.len → get_or (data_of settings w).bytes i 0 ≡ value_at settings (w.start + i)
  data_at i h = get_or-take w.len (drop w.start settings) i 0 h ∙ get_or-drop w.start settings i 0

  pub write_back : write_of (data_of settings w) ≡ w
  write_back = ap (λ (k : ℕ). record { start = w.start; len = k }) data_length

-- ---- the whole list

module _ (ok : ℕ → Bool) (n : ℕ) (settings : List ℕ) (r : Layout ok n settings) where
  pub writes_back : (ws : List Write) → AllGood ok n ws → map write_of (map (data_of settings) ws) ≡ ws
  writes_back [] g = refl
  writes_back (w ∷ ws) g = ap₂ ◌∷◌ (write_back settings w (omega (arith, g.0.fits, r.size))) (writes_back ws g.1)

  pub good_enable : (v : ℕ) → Good ok n (write_of (enable_write v))
  good_enable v = record {
    some = omega arith;
    fits = omega (arith, r.some);
    each = λ a p q. subst (λ (m : ℕ). ok m ≡ true) (omega arith) r.enable_ok;
  }

  module _ (v : View) where
    pub plan_ok : AllGood ok n (plan (marks_for ok v.same) n)
    plan_ok =
        all_weaken (Good (writable_by (marks_for ok v.same)) n) (Good ok n)
        (good_weaken (writable_by (marks_for ok v.same)) ok n (mark_ok ok v.same r.enable_ok))
        (plan (marks_for ok v.same) n) (plan_good (marks_for ok v.same) n)

    -- the list of settings that are on
    pub update_on : on_by (value_at settings) ≡ true →
        update_for ok n settings v ≡ enable v.sure ++ map (data_of settings) (plan (marks_for ok v.same) n)
    unfolding update_for
    update_on o = rw o

    -- and of settings that are off
    pub update_off : on_by (value_at settings) ≡ false → update_for ok n settings v ≡ update_by false v.sure v.perhaps []
    unfolding update_for
    update_off o = rw o (go v.perhaps)
      where
        go : (c : Bool) → update_by false v.sure c (map (data_of settings) (plan (marks_for ok v.same) n)) ≡ update_by false v.sure c []
        go true = refl
        go false = refl

    -- every data byte is for a writable address
    pub update_good : AllGood ok n (map write_of (update_for ok n settings v))
    unfolding update_for
    update_good = go (on_by (value_at settings)) v.sure v.perhaps
      where
        ws : List Write
        ws = plan (marks_for ok v.same) n

        planned : AllGood ok n (map write_of (map (data_of settings) ws))
        planned = rw (writes_back ws plan_ok) plan_ok

        go : (w o c : Bool) → AllGood ok n (map write_of (update_by w o c (map (data_of settings) ws)))
        go false o true = (good_enable 0x00, tt)
        go false o false = tt
        go true true c = planned
        go true false c = (good_enable 0x01, planned)

    -- the enabling write, if there is one, and the plan
    pub update_cost : (h : ℕ) → on_by (value_at settings) ≡ true →
        cost_by h (map write_of (update_for ok n settings v))
        ≡ enable_cost h v.sure + cost_by h (plan (marks_for ok v.same) n)
    update_cost h o = ap (λ (bs : List Burst). cost_by h (map write_of bs)) (update_on o) ∙ go v.sure
      where
        ws : List Write
        ws = plan (marks_for ok v.same) n

        planned : cost_by h (map write_of (map (data_of settings) ws)) ≡ cost_by h ws
        planned = ap (cost_by h) (writes_back ws plan_ok)

        go : (c : Bool) → cost_by h (map write_of (enable c ++ map (data_of settings) ws)) ≡ enable_cost h c + cost_by h ws
        go true = omega (arith, planned)
        go false = omega (arith, planned)

    bound : (k : ℕ) → cost (plan (marks_for ok v.same) n) ≤ k → bus_bytes (update_for ok n settings v) ≤ 3 + k
    bound k h = go (on_by (value_at settings)) refl
      where
        first : (c : Bool) → enable_cost 2 c ≤ 3
        first true = omega arith
        first false = omega arith

        off : (c : Bool) → bus_bytes (update_by false v.sure c []) ≤ 3
        off true = omega arith
        off false = omega arith

        go : (w : Bool) → on_by (value_at settings) ≡ w → bus_bytes (update_for ok n settings v) ≤ 3 + k
        go true e = omega (arith, bus_cost (update_for ok n settings v), update_cost 2 e, first v.sure)
        go false e = omega (arith, ap bus_bytes (update_off e), off v.perhaps)

    -- three bytes at most for each address, and three to enable
    pub update_small : bus_bytes (update_for ok n settings v) ≤ 3 + 3 * n
    update_small = bound (3 * n) (plan_small (marks_for ok v.same) n)

    -- no update takes more than one after which every writable address differs
    pub update_most : bus_bytes (update_for ok n settings v) ≤ 3 + cost (plan (all_differ ok) n)
    update_most = bound (cost (plan (all_differ ok) n)) (plan_most (marks_for ok v.same) (all_differ ok) wider n)
      where
        by : (b e : Bool) → Wider (mark_at b e) (mark_at b false)
        by true true = clean_dirty
        by true false = dirty_dirty
        by false e = hole_hole

        wider : (a : ℕ) → Wider (marks_for ok v.same a) (all_differ ok a)
        wider zero = clean_clean
        wider (suc a) = by (ok (suc a)) (v.same (suc a))

    -- three bytes or more for each transaction
    pub update_few : 3 * length (update_for ok n settings v) ≤ bus_bytes (update_for ok n settings v)
    update_few =
        omega (
          arith,
          count_le_cost ok n (map write_of (update_for ok n settings v)) update_good,
          length-map (update_for ok n settings v) write_of,
          bus_cost (update_for ok n settings v),
        )

-- ---- data bytes that fit

-- a transaction whose addresses there are, each data byte of which may stand at its address
pub record Fitting (Fit : ℕ → ℕ → Type 0) (n : ℕ) (b : Burst) : Type 0 where
  pub inside : b.start + length b.bytes ≤ n
  pub fits : (i : ℕ) → i < length b.bytes → Fit (b.start + i) (get_or b.bytes i 0)

module _ (ok : ℕ → Bool) (n : ℕ) (settings : List ℕ) (r : Layout ok n settings) (Fit : ℕ → ℕ → Type 0)
    (fit : (a : ℕ) → a < n → ok a ≡ true → Fit a (value_at settings a)) where
  data_fits : (w : Write) → Good ok n w → Fitting Fit n (data_of settings w)
  data_fits w g =
      let inside : w.start + w.len ≤ length settings = omega (arith, g.fits, r.size) in
      record {
        inside = omega (arith, g.fits, data_length settings w inside);
        fits = λ i h.
            let k : i < w.len = omega (arith, data_length settings w inside) in
            subst (Fit (w.start + i)) (sym (data_at settings w inside i k))
            (fit (w.start + i) (omega (arith, g.fits)) (g.each (w.start + i) (omega arith) (omega arith)));
      }

  plan_fits : (ws : List Write) → AllGood ok n ws → All (Fitting Fit n) (map (data_of settings) ws)
  plan_fits [] g = tt
  plan_fits (w ∷ ws) g = (data_fits w g.0, plan_fits ws g.1)

  enable_fits : (v : ℕ) → value_at settings 0 ≡ v → Fitting Fit n (enable_write v)
  enable_fits v e = record {
    inside = omega (arith, r.some);
    fits = λ i h. let z : i ≡ 0 = omega arith in rw z (subst (Fit 0) e (fit 0 r.some r.enable_ok));
  }

  -- every data byte of an update may stand at its address
  pub update_fitting : value_at settings 0 ≤ 1 → (v : View) → All (Fitting Fit n) (update_for ok n settings v)
  unfolding update_for
  update_fitting small v = go (on_by (value_at settings)) refl v.sure v.perhaps
    where
      planned : All (Fitting Fit n) (map (data_of settings) (plan (marks_for ok v.same) n))
      planned = plan_fits (plan (marks_for ok v.same) n) (plan_ok ok n settings r v)

      go : (w : Bool) → on_by (value_at settings) ≡ w → (o c : Bool) →
          All (Fitting Fit n) (update_by w o c (map (data_of settings) (plan (marks_for ok v.same) n)))
      go true e true c = planned
      go true e false c = (enable_fits 0x01 (one_is (value_at settings 0) e small), planned)
      go false e o true = (enable_fits 0x00 (zero_is (value_at settings 0) e small), tt)
      go false e o false = tt
