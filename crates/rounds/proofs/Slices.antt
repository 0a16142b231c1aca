-- A round over copies of any length. The record of a copy that is no image is unsound if the copy is its image, so it takes nothing, and the copy
-- is not written.
-- Assumes nothing.
use Rattle.std.proofs.Common.{◌≡◌, refl, sym, ap, ◌∙◌, Bool, true, false, cond, ◌&&◌, List, [], ◌∷◌, ℕ, zero, suc, ◌<◌, length, eqb, get_or, arith}
use borrow.Author.Tests.{eqb-true, eqb-false}
use Rattle.host.specs.declared.Record.{Record}
use Rattle.host.proofs.SoundLaws.{sound_is}
use Rattle.update.specs.Update.{is_listed}
use Rattle.rounds.specs.Round.{part_at, takes, round_parts, round_answer, round_record}
use Rattle.rounds.proofs.DealLaws.{round_takes}
use Rattle.rounds.specs.Dealing.{image_at, ImagesAfter}

module _ (present : ℕ → Bool) (records : ℕ → Record) (limit size : ℕ) where
  not_taken : (k : ℕ) → k < 4 → (length (records k).image ≡ 908 → ⊥) → (round_record present records limit size k).image ≡ (records k).image
  unfolding round_record
  not_taken k h n = go (is_listed (round_answer present records limit size)) refl (present k) refl
    where
      go : (a : Bool) → is_listed (round_answer present records limit size) ≡ a → (b : Bool) → present k ≡ b →
          (cond (a && b) (takes (records k) (part_at (round_parts present records limit) k)) (records k)).image ≡ (records k).image
      go true e true p = absurd (n (sound_is (records k) ((round_takes present records limit size e).sound k h p)).image.size)
      go true e false p = refl
      go false e b p = refl

  -- one copy: what the array's entry became goes back where there is one
  one_after : (k : ℕ) → k < 4 → (old copy new after : List ℕ) → (length old ≡ 908 → copy ≡ old) →
      (copy ≡ (records k).image → after ≡ (round_record present records limit size k).image) →
      new ≡ cond (eqb (length old) 908) after old → old ≡ (records k).image → new ≡ (round_record present records limit size k).image
  one_after k h old copy new after c i p e = p ∙ go (eqb (length old) 908) refl
    where
      go : (b : Bool) → eqb (length old) 908 ≡ b → cond b after old ≡ (round_record present records limit size k).image
      go true t = i (c (eqb-true (length old) 908 t) ∙ e)
      go false t = e ∙ sym (not_taken k h (λ s. eqb-false (length old) 908 t (ap length e ∙ s)))

  pub four_after : (a0 a1 a2 a3 n0 n1 n2 n3 : List ℕ) (c0 c1 c2 c3 : List ℕ) (after : List (List ℕ)) →
      ImagesAfter present records limit size (c0 ∷ c1 ∷ c2 ∷ c3 ∷ []) after →
      (length a0 ≡ 908 → c0 ≡ a0) → (length a1 ≡ 908 → c1 ≡ a1) → (length a2 ≡ 908 → c2 ≡ a2) → (length a3 ≡ 908 → c3 ≡ a3) →
      n0 ≡ cond (eqb (length a0) 908) (image_at after 0) a0 → n1 ≡ cond (eqb (length a1) 908) (image_at after 1) a1 →
      n2 ≡ cond (eqb (length a2) 908) (image_at after 2) a2 → n3 ≡ cond (eqb (length a3) 908) (image_at after 3) a3 →
      ImagesAfter present records limit size (a0 ∷ a1 ∷ a2 ∷ a3 ∷ []) (n0 ∷ n1 ∷ n2 ∷ n3 ∷ [])
  four_after a0 a1 a2 a3 n0 n1 n2 n3 c0 c1 c2 c3 after i e0 e1 e2 e3 p0 p1 p2 p3 = go
    where
      go : (k : ℕ) → k < 4 → image_at (a0 ∷ a1 ∷ a2 ∷ a3 ∷ []) k ≡ (records k).image →
          image_at (n0 ∷ n1 ∷ n2 ∷ n3 ∷ []) k ≡ (round_record present records limit size k).image
      go zero h e = one_after 0 h a0 c0 n0 (image_at after 0) e0 (i 0 h) p0 e
      go (suc zero) h e = one_after 1 h a1 c1 n1 (image_at after 1) e1 (i 1 h) p1 e
      go (suc (suc zero)) h e = one_after 2 h a2 c2 n2 (image_at after 2) e2 (i 2 h) p2 e
      go (suc (suc (suc zero))) h e = one_after 3 h a3 c3 n3 (image_at after 3) e3 (i 3 h) p3 e
      go (suc (suc (suc (suc k)))) h e = absurd (omega (arith, h))
