-- The update's list is heard to the last byte: the host's image, with the data bytes at their addresses, is again the chip. And it
-- has then the settings that are on.
-- Assumes nothing.
use Rattle.std.specs.Prelude.{◌≡◌, refl, ◌⊎◌, Bool, true, false, List, [], ◌∷◌, ◌++◌, map, ℕ, ◌+◌, ◌-◌, ◌≤◌, ◌<◌, length}
use Rattle.std.proofs.Common.{sym, ap, ◌∙◌, subst, inl, inr, arith}
use Rattle.std.proofs.Math.Decide.{ℕ_discrete, dec_lt}
use Rattle.std.proofs.lemmas.List.Edits.{sets}
use Rattle.std.proofs.Math.Seq.{length-sets}
use Rattle.burst.specs.Burst.{Burst}
use Rattle.plan.specs.Lists.{sets_outside, sets_inside}
use Rattle.plan.specs.Plan.{Write, plan}
use Rattle.plan.specs.Writes.{Good, AllGood, Inside, Sent}
use Rattle.plan.proofs.PlanLaws.{plan_sends}
use Rattle.plan.specs.Update.{value_at, Agree, marks_for, on_by, View, data_of, enable_write, enable, update_by, update_for, store_all, Images}
use Rattle.plan.proofs.UpdateLaws.{on_same, one_is, differs_dirty, Allows, data_length, data_at, plan_ok, update_on, update_off, update_good, update_fitting}
use Rattle.plan.specs.Machine.{Machine, feed_by, Ready}
use Rattle.plan.proofs.Heard.{Hears, Heard, follow_heard}

pub store_append : (xs ys : List Burst) (image : List ℕ) → store_all (xs ++ ys) image ≡ store_all ys (store_all xs image)
store_append [] ys image = refl
store_append (b ∷ xs) ys image = store_append xs ys (sets image b.start b.bytes)

-- ---- the writes of a plan, with the settings as their data

module _ (ok : ℕ → Bool) (n : ℕ) (settings : List ℕ) (size : length settings ≡ n) where
  -- a sent address has its settings' byte, and one that had it keeps it
  image_one : (w : Write) → Good ok n w → (image : List ℕ) → length image ≡ n → (a : ℕ) →
      Inside w a ⊎ (value_at image a ≡ value_at settings a) →
      value_at (sets image w.start (data_of settings w).bytes) a ≡ value_at settings a
  image_one w g image l a q = go (dec_lt a w.start) (dec_lt a (w.start + w.len)) q
    where
      fits : w.start + w.len ≤ length settings
      fits = omega (arith, g.fits, size)

      kept : (a < w.start) ⊎ (w.start + w.len ≤ a) → value_at image a ≡ value_at settings a →
          value_at (sets image w.start (data_of settings w).bytes) a ≡ value_at settings a
      kept p e =
          sets_outside (data_of settings w).bytes image w.start a
          (subst (λ (k : ℕ). (a < w.start) ⊎ (w.start + k ≤ a)) (sym (data_length settings w fits)) p)
          ∙ e

      stored : (i : ℕ) → i < w.len → value_at (sets image w.start (data_of settings w).bytes) (w.start + i) ≡ value_at settings (w.start + i)
      stored i h =
          sets_inside (data_of settings w).bytes image w.start i (omega (arith, data_length settings w fits))
          (omega (arith, data_length settings w fits, g.fits))
          ∙ data_at settings w fits i h

      go : Dec (a < w.start) → Dec (a < w.start + w.len) → Inside w a ⊎ (value_at image a ≡ value_at settings a) →
          value_at (sets image w.start (data_of settings w).bytes) a ≡ value_at settings a
      go (yes p) r (inl i) = absurd (omega (arith, i.0))
      go (yes p) r (inr e) = kept (inl p) e
      go (no p) (no r) (inl i) = absurd (omega (arith, i.1))
      go (no p) (no r) (inr e) = kept (inr (omega arith)) e
      go (no p) (yes r) i =
          subst (λ (x : ℕ). value_at (sets image w.start (data_of settings w).bytes) x ≡ value_at settings x)
          (omega arith) (stored (a - w.start) (omega arith))

  image_all : (ws : List Write) → AllGood ok n ws → (image : List ℕ) → length image ≡ n → (a : ℕ) →
      Sent ws a ⊎ (value_at image a ≡ value_at settings a) → value_at (store_all (map (data_of settings) ws) image) a ≡ value_at settings a
  image_all [] g image l a (inl p) = absurd p
  image_all [] g image l a (inr p) = p
  image_all (w ∷ ws) g image l a q =
      image_all ws g.1 (sets image w.start (data_of settings w).bytes) (length-sets image w.start (data_of settings w).bytes ∙ l) a (go q)
    where
      go : (Inside w a ⊎ Sent ws a) ⊎ (value_at image a ≡ value_at settings a) →
          Sent ws a ⊎ (value_at (sets image w.start (data_of settings w).bytes) a ≡ value_at settings a)
      go (inl (inl p)) = inr (image_one w g.0 image l a (inl p))
      go (inl (inr p)) = inl p
      go (inr p) = inr (image_one w g.0 image l a (inr p))

  -- the writes of a plan to a chip that is on are heard, if the settings are on too
  plan_heard : on_by (value_at settings) ≡ true → (ws : List Write) → AllGood ok n ws → (image : List ℕ) → length image ≡ n →
      value_at image 0 ≡ value_at settings 0 → Heard image (map (data_of settings) ws)
  plan_heard o [] g image l e = tt
  plan_heard o (w ∷ ws) g image l e = (
    λ i h. inl (on_same (value_at image) (value_at settings) e ∙ o),
    plan_heard o ws g.1 (sets image w.start (data_of settings w).bytes)
        (length-sets image w.start (data_of settings w).bytes ∙ l) (image_one w g.0 image l 0 (inr e)),
  )

-- ---- the whole list, by any view that is true of a chip with the image's bytes

module _ (ok : ℕ → Bool) (n : ℕ) (settings image : List ℕ) (r : Images ok n settings image)
    (v : View) (t : Allows ok n (value_at settings) v (value_at image)) where
  abbrev ws : List Write
  ws = plan (marks_for ok v.same) n

  planned : AllGood ok n ws
  planned = plan_ok ok n settings r.layout v

  want_one : on_by (value_at settings) ≡ true → value_at settings 0 ≡ 1
  want_one o = one_is (value_at settings 0) o r.want_enable

  -- the image after the enabling write, if there is one
  record Begun (image₁ : List ℕ) : Type 0 where
    size : length image₁ ≡ n
    first : value_at image₁ 0 ≡ 1
    rest : (a : ℕ) → 0 < a → value_at image₁ a ≡ value_at image a

  begun : (o : Bool) → v.sure ≡ o → Begun (store_all (enable o) image)
  begun true e = record { size = r.size; first = one_is (value_at image 0) (t.on e) r.have_enable; rest = λ a h. refl }
  begun false e = record {
    size = length-sets image 0 (1 ∷ []) ∙ r.size;
    first = sets_inside (1 ∷ []) image 0 0 (omega arith) (omega (arith, r.size, r.layout.some));
    rest = λ a h. sets_outside (1 ∷ []) image 0 a (inr (omega arith));
  }

  -- the differing addresses from 001h up are sent
  sent_or_right : (a : ℕ) → 0 < a → a < n → ok a ≡ true → Sent ws a ⊎ (value_at image a ≡ value_at settings a)
  sent_or_right a z l k = go (v.same a) refl
    where
      go : (b : Bool) → v.same a ≡ b → Sent ws a ⊎ (value_at image a ≡ value_at settings a)
      go true e = inr (t.right a l k e)
      go false e = inl (plan_sends (marks_for ok v.same) n a l (differs_dirty ok v.same a (record { past = z; may = k; differs = e })))

  -- settings that are on are then in the image
  pub image_reaches : on_by (value_at settings) ≡ true → Agree ok n (value_at (store_all (update_for ok n settings v) image)) (value_at settings)
  image_reaches o a l k =
      ap (λ (bs : List Burst). value_at (store_all bs image) a) (update_on ok n settings r.layout v o)
      ∙ ap (λ (x : List ℕ). value_at x a) (store_append (enable v.sure) (map (data_of settings) ws) image)
      ∙ image_all ok n settings r.layout.size ws planned image₁ b.size a (go (ℕ_discrete a 0))
    where
      image₁ : List ℕ
      image₁ = store_all (enable v.sure) image

      b : Begun image₁
      b = begun v.sure refl

      by : 0 < a → Sent ws a ⊎ (value_at image a ≡ value_at settings a) → Sent ws a ⊎ (value_at image₁ a ≡ value_at settings a)
      by h (inl p) = inl p
      by h (inr p) = inr (b.rest a h ∙ p)

      go : Dec (a ≡ 0) → Sent ws a ⊎ (value_at image₁ a ≡ value_at settings a)
      go (yes e) = inr (rw e (b.first ∙ sym (want_one o)))
      go (no e) = by (omega arith) (sent_or_right a (omega arith) l k)

  -- every data byte is heard
  pub update_heard : Heard image (update_for ok n settings v)
  update_heard = go (on_by (value_at settings)) refl
    where
      first : (x : ℕ) → Hears (value_at image) (enable_write x)
      first x i h = inr (omega arith)

      on : on_by (value_at settings) ≡ true → (c : Bool) → Begun (store_all (enable c) image) → Heard image (enable c ++ map (data_of settings) ws)
      on o true b = plan_heard ok n settings r.layout.size o ws planned image b.size (b.first ∙ sym (want_one o))
      on o false b = (
        first 0x01,
        plan_heard ok n settings r.layout.size o ws planned (store_all (enable false) image) b.size (b.first ∙ sym (want_one o)),
      )

      off : (c : Bool) → Heard image (update_by false v.sure c [])
      off true = (first 0x00, tt)
      off false = tt

      go : (w : Bool) → on_by (value_at settings) ≡ w → Heard image (update_for ok n settings v)
      go true o = subst (Heard image) (sym (update_on ok n settings r.layout v o)) (on o v.sure (begun v.sure refl))
      go false o = subst (Heard image) (sym (update_off ok n settings r.layout v o)) (off v.perhaps)

module _ (ok : ℕ → Bool) (n : ℕ) (M : Machine ok n) (settings image : List ℕ) (s : M.State) (r : Ready ok n M settings image s)
    (v : View) (t : Allows ok n (value_at settings) v (value_at image)) where
  -- the image with the data bytes at their addresses is the chip after the list
  pub follows : Agree ok n (value_at (store_all (update_for ok n settings v) image)) (M.byte (feed_by ok n M s (update_for ok n settings v)))
  follows =
      follow_heard ok n M r.images.layout.some r.images.layout.enable_ok (update_for ok n settings v) s image
      (update_good ok n settings r.images.layout v)
      (update_fitting ok n settings r.images.layout M.Fit r.fit r.images.want_enable v)
      (update_heard ok n settings image r.images v t) r.sound r.images.size r.same

  -- and so settings that are on are then in the chip
  pub reaches : on_by (value_at settings) ≡ true → Agree ok n (M.byte (feed_by ok n M s (update_for ok n settings v))) (value_at settings)
  reaches o a l k = sym (follows a l k) ∙ image_reaches ok n settings image r.images v t o a l k
