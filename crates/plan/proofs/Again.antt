-- An update straight after an update sends nothing: the image that the first one leaves is one for which there is nothing to send.
-- Assumes nothing.
use Rattle.std.specs.Prelude.{◌≡◌, refl, Bool, true, false, List, [], ◌∷◌, ◌++◌, map, ℕ, ◌%◌, ◌<◌, eqb}
use Rattle.std.proofs.Common.{ap, ◌∙◌, arith}
use Rattle.std.proofs.lemmas.Bool.{eqb-false}
use Rattle.burst.specs.Burst.{Burst}
use Rattle.plan.specs.Lists.{sets_inside}
use Rattle.plan.specs.Plan.{dirty, plan}
use Rattle.plan.proofs.PlanLaws.{plan_none}
use Rattle.plan.specs.Update.{value_at, Agree, marks_for, on_by, same_at, seen, data_of, enable, update_by, update_for, store_all, Images}
use Rattle.plan.proofs.UpdateLaws.{on_same, dirty_differs, seen_allows, update_on, update_off}
use Rattle.plan.proofs.Follow.{image_reaches}

module _ (ok : ℕ → Bool) (n : ℕ) (settings image : List ℕ) (r : Images ok n settings image) where
  -- the update's list to a chip with the bytes of x, and the image that the first one leaves
  abbrev list_to : List ℕ → List Burst
  list_to x = update_for ok n settings (seen (value_at settings) (value_at x))

  abbrev after : List ℕ
  after = store_all (list_to image) image

  -- where settings and image agree no address is dirty
  none_dirty : (have : ℕ → ℕ) → Agree ok n have (value_at settings) → (a : ℕ) → a < n → marks_for ok (same_at (value_at settings) have) a ≡ dirty → ⊥
  none_dirty have e a h d =
      let q = dirty_differs ok (same_at (value_at settings) have) a d in
      eqb-false (have a) (value_at settings a) q.differs (e a h q.may)

  on_again : on_by (value_at settings) ≡ true → Agree ok n (value_at after) (value_at settings) → list_to after ≡ []
  on_again o e =
      update_on ok n settings r.layout (seen (value_at settings) (value_at after)) o
      ∙ ap (λ (b : Bool). enable b ++ map (data_of settings) (plan (marks_for ok (same_at (value_at settings) (value_at after))) n))
      (on_same (value_at after) (value_at settings) (e 0 r.layout.some r.layout.enable_ok) ∙ o)
      ∙ ap (map (data_of settings)) (plan_none (marks_for ok (same_at (value_at settings) (value_at after))) n (none_dirty (value_at after) e))

  off_again : on_by (value_at settings) ≡ false → on_by (value_at after) ≡ false
  off_again o =
      ap (λ (bs : List Burst). on_by (value_at (store_all bs image))) (update_off ok n settings r.layout (seen (value_at settings) (value_at image)) o)
      ∙ go (on_by (value_at image)) refl
    where
      go : (c : Bool) → on_by (value_at image) ≡ c → on_by (value_at (store_all (update_by false (on_by (value_at image)) c []) image)) ≡ false
      go true e = ap (λ (v : ℕ). eqb (v % 2) 1) (sets_inside (0 ∷ []) image 0 0 (omega arith) (omega (arith, r.size, r.layout.some)))
      go false e = e

  pub update_again : list_to after ≡ []
  update_again = go (on_by (value_at settings)) refl
    where
      go : (w : Bool) → on_by (value_at settings) ≡ w → list_to after ≡ []
      go true o =
          on_again o (image_reaches ok n settings image r (seen (value_at settings) (value_at image)) (seen_allows ok n (value_at settings) (value_at image)) o)
      go false o =
          update_off ok n settings r.layout (seen (value_at settings) (value_at after)) o
          ∙ ap (λ (c : Bool). update_by false c c []) (off_again o)
