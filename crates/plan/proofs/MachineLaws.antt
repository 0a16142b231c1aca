-- The claims about an update, for every machine.
-- Assumes nothing.
use Rattle.std.specs.Prelude.{◌≡◌, refl, Bool, true, false, List, [], ◌∷◌, map, ℕ, suc, ◌+◌, ◌%◌, ◌≤◌, length}
use Rattle.std.proofs.Common.{sym, ap, ◌∙◌, subst, inr, arith, eqb-true}
use Rattle.std.proofs.lemmas.List.{length-map}
use Rattle.burst.specs.Burst.{Burst, bus_bytes}
use Rattle.plan.specs.Lists.{all_weaken}
use Rattle.plan.specs.Plan.{writable_by, cost_by, plan}
use Rattle.plan.specs.Writes.{Good, AllGood}
use Rattle.plan.specs.WriteLaws.{good_weaken, cost_three}
use Rattle.plan.proofs.Cheapest.{plan_cheapest_by}
use Rattle.plan.specs.Update.{value_at, Agree, marks_for, on_by, View, seen, enable_write, update_by, update_for, write_of, enable_cost}
use Rattle.plan.proofs.UpdateLaws.{bus_cost, on_same, zero_is, ok_mark, Allows, seen_allows, good_enable, update_off, update_good, update_cost}
use Rattle.plan.specs.Machine.{Machine, feed_by, Ready, sent, Rival, Best}
use Rattle.plan.proofs.Covered.{Covered, covered}
use Rattle.plan.proofs.Follow.{follows, reaches}

-- at three head bytes each transaction counts once more
writes_three : (bs : List Burst) → cost_by 3 (map write_of bs) ≡ bus_bytes bs + length bs
writes_three bs = omega (arith, cost_three (map write_of bs), bus_cost bs, length-map bs write_of)

module _ (ok : ℕ → Bool) (n : ℕ) (M : Machine ok n) where
  -- A list that is covered costs at least the plan, and an enabling write if the chip is not known to be on.
  pub machine_least : (v : View) (bs : List Burst) → AllGood ok n (map write_of bs) → Covered ok n M v bs → (h : ℕ) → 2 ≤ h → h ≤ 3 →
      enable_cost h v.sure + cost_by h (plan (marks_for ok v.same) n) ≤ cost_by h (map write_of bs)
  machine_least v bs g c h lo hi =
      omega (
        arith,
        c.costs h,
        plan_cheapest_by (marks_for ok v.same) n c.writes
            (all_weaken (Good ok n) (Good (writable_by (marks_for ok v.same)) n)
            (good_weaken ok (writable_by (marks_for ok v.same)) n (ok_mark ok v.same))
            c.writes (c.among (Good ok n) g))
            c.sends h lo hi,
      )

  module _ (settings image : List ℕ) (s : M.State) (r : Ready ok n M settings image s) where
    -- ---- no list costs less than the update, by any view

    -- settings that are on: of the lists that are covered
    on_least : (v : View) → on_by (value_at settings) ≡ true → (rival : List Burst) → AllGood ok n (map write_of rival) → Covered ok n M v rival →
        (h : ℕ) → 2 ≤ h → h ≤ 3 → cost_by h (map write_of (update_for ok n settings v)) ≤ cost_by h (map write_of rival)
    on_least v o rival g c h lo hi = omega (arith, update_cost ok n settings r.images.layout v h o, machine_least v rival g c h lo hi)

    -- 00h is what settings that are off have at 000h
    fit_off : on_by (value_at settings) ≡ false → M.Fit 0 0
    fit_off o =
        subst (M.Fit 0) (zero_is (value_at settings 0) o r.images.want_enable)
        (r.fit 0 r.images.layout.some r.images.layout.enable_ok)

    -- a chip that is on goes off by no empty list
    switch_off : on_by (value_at settings) ≡ false → on_by (M.byte s) ≡ true → (rival : List Burst) → AllGood ok n (map write_of rival) →
        M.byte (feed_by ok n M s rival) 0 ≡ M.byte (M.hear s (enable_write 0)) 0 → (h : ℕ) → suc h ≤ cost_by h (map write_of rival)
    switch_off o c [] g e h =
        let q = e ∙ M.stores s (enable_write 0) (good_enable ok n settings r.images.layout 0) r.sound 0 (omega arith) (fit_off o) (inr refl) in
        absurd (omega (arith, eqb-true (M.byte s 0 % 2) 1 c, q))
    switch_off o c (b ∷ bs) g e h = omega (arith, g.0.some)

    -- settings that are off: of the lists that leave what it leaves, where the view has the chip on as it is
    off_least : (v : View) → v.perhaps ≡ on_by (value_at image) → on_by (value_at settings) ≡ false → (rival : List Burst) →
        AllGood ok n (map write_of rival) → Agree ok n (M.byte (feed_by ok n M s rival)) (M.byte (feed_by ok n M s (update_for ok n settings v))) →
        (h : ℕ) → cost_by h (map write_of (update_for ok n settings v)) ≤ cost_by h (map write_of rival)
    off_least v p o rival g e h = go v.perhaps refl
      where
        on : v.perhaps ≡ true → on_by (M.byte s) ≡ true
        on q =
            on_same (M.byte s) (value_at image) (sym (r.same 0 r.images.layout.some r.images.layout.enable_ok))
            ∙ sym p ∙ q

        is : (c : Bool) → v.perhaps ≡ c → update_for ok n settings v ≡ update_by false v.sure c []
        is c q = update_off ok n settings r.images.layout v o ∙ ap (λ (x : Bool). update_by false v.sure x []) q

        go : (c : Bool) → v.perhaps ≡ c → cost_by h (map write_of (update_for ok n settings v)) ≤ cost_by h (map write_of rival)
        go true q =
            omega (
              arith,
              ap (λ (bs : List Burst). cost_by h (map write_of bs)) (is true q),
              switch_off o (on q) rival g
                  (e 0 r.images.layout.some r.images.layout.enable_ok ∙ ap (λ (bs : List Burst). M.byte (feed_by ok n M s bs) 0) (is true q)) h,
            )
        go false q = omega (arith, ap (λ (bs : List Burst). cost_by h (map write_of bs)) (is false q))

    -- ---- the claims, of a chip that has the image's bytes

    abbrev view : View
    view = seen (value_at settings) (value_at image)

    true_view : Allows ok n (value_at settings) view (value_at image)
    true_view = seen_allows ok n (value_at settings) (value_at image)

    least_by : (h : ℕ) → 2 ≤ h → h ≤ 3 → (rival : List Burst) → Rival ok n M settings image s rival →
        cost_by h (map write_of (sent ok n M settings image s)) ≤ cost_by h (map write_of rival)
    least_by h lo hi rival v = go (on_by (value_at settings)) refl
      where
        go : (w : Bool) → on_by (value_at settings) ≡ w → cost_by h (map write_of (sent ok n M settings image s)) ≤ cost_by h (map write_of rival)
        go true o =
            on_least view o rival v.allowed
            (covered ok n M (value_at settings) (value_at image) s r.same rival v.allowed
            (λ a l k. v.same a l k ∙ reaches ok n M settings image s r view true_view o a l k)
            r.images.layout.some r.images.layout.enable_ok o) h lo hi
        go false o = off_least view refl o rival v.allowed v.same h

    pub machine_best : Best ok n M settings image s
    machine_best = record {
      allowed = update_good ok n settings r.images.layout view;
      reached = reaches ok n M settings image s r view true_view;
      follows = follows ok n M settings image s r view true_view;
      fewest = λ rival v.
          omega (
            arith,
            least_by 2 (omega arith) (omega arith) rival v,
            bus_cost (sent ok n M settings image s),
            bus_cost rival,
          );
      writes = λ rival v e.
          omega (
            arith,
            least_by 3 (omega arith) (omega arith) rival v,
            writes_three (sent ok n M settings image s),
            writes_three rival,
          );
    }
