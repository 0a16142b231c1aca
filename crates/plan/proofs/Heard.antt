-- A list all of whose data bytes are heard: storing it into the image is what hearing it does to the chip. Whether a byte is heard
-- depends on the writes before it alone.
-- Assumes nothing.
use Rattle.std.specs.Prelude.{◌≡◌, ◌⊎◌, Bool, true, List, [], ◌∷◌, map, ℕ, ◌+◌, ◌-◌, ◌≤◌, ◌<◌, length, get_or}
use Rattle.std.proofs.Common.{sym, ◌∙◌, subst, inl, inr, arith}
use Rattle.std.proofs.Math.Decide.{dec_lt}
use Rattle.std.proofs.lemmas.List.Edits.{sets}
use Rattle.std.proofs.Math.Seq.{length-sets}
use Rattle.burst.specs.Burst.{Burst}
use Rattle.plan.specs.Lists.{All, sets_outside, sets_inside}
use Rattle.plan.specs.Writes.{Good, AllGood}
use Rattle.plan.specs.Update.{value_at, Agree, on_by, store_all, write_of}
use Rattle.plan.proofs.UpdateLaws.{on_same, Fitting}
use Rattle.plan.specs.Machine.{Machine, feed_by}

-- a chip with these bytes hears every data byte of a write: it is on as the write starts, or the byte is for 000h
abbrev pub Hears : (ℕ → ℕ) → Burst → Type 0
Hears have b = (i : ℕ) → i < length b.bytes → (on_by have ≡ true) ⊎ (b.start + i ≡ 0)

-- and so every write of a list, with the image as it is when the write starts
abbrev pub Heard : List ℕ → List Burst → Type 0
Heard image [] = Unit
Heard image (b ∷ bs) = Hears (value_at image) b × Heard (sets image b.start b.bytes) bs

module _ (ok : ℕ → Bool) (n : ℕ) (M : Machine ok n) where
  pub feed_stays : (bs : List Burst) (s : M.State) → AllGood ok n (map write_of bs) → M.Sound s → M.Sound (feed_by ok n M s bs)
  feed_stays [] s g z = z
  feed_stays (b ∷ bs) s g z = feed_stays bs (M.hear s b) g.1 (M.keeps s b g.0 z)

  -- data bytes that the chip stores, stored in the image too
  follow_one : (s : M.State) (b : Burst) (image : List ℕ) → Good ok n (write_of b) → Fitting M.Fit n b → Hears (M.byte s) b →
      M.Sound s → length image ≡ n → Agree ok n (value_at image) (M.byte s) →
      Agree ok n (value_at (sets image b.start b.bytes)) (M.byte (M.hear s b))
  follow_one s b image g f on z size same a l k = go (dec_lt a b.start) (dec_lt a (b.start + length b.bytes))
    where
      kept : (a < b.start) ⊎ (b.start + length b.bytes ≤ a) → get_or (sets image b.start b.bytes) a 0 ≡ M.byte (M.hear s b) a
      kept p = sets_outside b.bytes image b.start a p ∙ same a l k ∙ sym (M.outside s b g a k p)

      stored : (i : ℕ) → i < length b.bytes → get_or (sets image b.start b.bytes) (b.start + i) 0 ≡ M.byte (M.hear s b) (b.start + i)
      stored i h =
          sets_inside b.bytes image b.start i h (omega (arith, g.fits, size)) ∙ sym (M.stores s b g z i h (f.fits i h) (on i h))

      go : Dec (a < b.start) → Dec (a < b.start + length b.bytes) → get_or (sets image b.start b.bytes) a 0 ≡ M.byte (M.hear s b) a
      go (yes p) q = kept (inl p)
      go (no p) (no q) = kept (inr (omega arith))
      go (no p) (yes q) =
          subst (λ (x : ℕ). get_or (sets image b.start b.bytes) x 0 ≡ M.byte (M.hear s b) x)
          (omega arith) (stored (a - b.start) (omega arith))

  -- the image follows the chip through a list that is heard
  pub follow_heard : 0 < n → ok 0 ≡ true → (bs : List Burst) (s : M.State) (image : List ℕ) → AllGood ok n (map write_of bs) →
      All (Fitting M.Fit n) bs → Heard image bs → M.Sound s → length image ≡ n → Agree ok n (value_at image) (M.byte s) →
      Agree ok n (value_at (store_all bs image)) (M.byte (feed_by ok n M s bs))
  follow_heard z k [] s image g f h sound size same = same
  follow_heard z k (b ∷ bs) s image g f h sound size same =
      follow_heard z k bs (M.hear s b) (sets image b.start b.bytes) g.1 f.1 h.1 (M.keeps s b g.0 sound)
      (length-sets image b.start b.bytes ∙ size)
      (follow_one s b image g.0 f.0 hears sound size same)
    where
      hears : Hears (M.byte s) b
      hears =
          subst (λ (o : Bool). (i : ℕ) → i < length b.bytes → (o ≡ true) ⊎ (b.start + i ≡ 0))
          (on_same (value_at image) (M.byte s) (same 0 z k)) h.0
