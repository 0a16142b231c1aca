-- "any of them marked absent and then neither checked nor changed": what a round answers, sends and writes does not depend on absent
-- records, and it gives them back as they were. A refused round changes nothing.
-- Assumes nothing.
use Rattle.std.specs.Prelude.{◌≡◌, not, ◌&&◌, ◌||◌, ℕ, ◌<◌, length}
use Rattle.std.proofs.Math.Path.{refl, ap, ap₂}
use Rattle.std.proofs.Common.{◌∙◌, arith}
use Rattle.std.proofs.Math.Bool.{Bool, true, false, cond}
use mathlib.Core.List.{List, [], ◌∷◌}
use Rattle.std.proofs.Math.Dec.{leb, eqb}
use Rattle.map.specs.declared.refusals.Refusal.TheVariants.{BufferShort, Unsound, RoundLimit, NotItsPlace}
use Rattle.burst.specs.Burst.{Burst}
use Rattle.host.specs.declared.Record.{Record}
use Rattle.host.specs.Record.{sound_of}
use Rattle.update.specs.Update.{ListAnswer, listed, refused, is_listed, over, writes_of}
use Rattle.rounds.specs.Round.{final_portions, round_list, count_all, bytes_all, round_size, least_limit, most_limit, every_place, takes, part_at, round_parts, present_sound, present_placed, round_answer, round_record, round_buffer, waitings}

-- ---- Absent records are not read

every_same : (f g : ℕ → Bool) → ((k : ℕ) → k < 4 → f k ≡ g k) → every_place f ≡ every_place g
every_same f g e = ap₂ ◌&&◌ (e 0 (omega arith)) (ap₂ ◌&&◌ (e 1 (omega arith)) (ap₂ ◌&&◌ (e 2 (omega arith)) (e 3 (omega arith))))

-- records f and g that are the same where they are present
module _ (present : ℕ → Bool) (f g : ℕ → Record) (same : (k : ℕ) → k < 4 → present k ≡ true → f k ≡ g k) where
  waits_same : (k : ℕ) → k < 4 → cond (present k) (writes_of (f k)) [] ≡ cond (present k) (writes_of (g k)) []
  waits_same k l = go (present k) (same k l)
    where
      go : (x : Bool) → (x ≡ true → f k ≡ g k) → cond x (writes_of (f k)) [] ≡ cond x (writes_of (g k)) []
      go true e = ap writes_of (e refl)
      go false e = refl

  -- a test of the present records
  test_same : (F : ℕ → Record → Bool) (k : ℕ) → k < 4 → (not (present k) || F k (f k)) ≡ (not (present k) || F k (g k))
  test_same F k l = go (present k) (same k l)
    where
      go : (x : Bool) → (x ≡ true → f k ≡ g k) → (not x || F k (f k)) ≡ (not x || F k (g k))
      go true e = ap (F k) (e refl)
      go false e = refl

  waitings_same : waitings present f ≡ waitings present g
  waitings_same =
      ap₂ ◌∷◌ (waits_same 0 (omega arith))
      (ap₂ ◌∷◌ (waits_same 1 (omega arith)) (ap₂ ◌∷◌ (waits_same 2 (omega arith)) (ap₂ ◌∷◌ (waits_same 3 (omega arith)) refl)))

  -- what is sent,
  pub parts_same : (limit : ℕ) → round_parts present f limit ≡ round_parts present g limit
  parts_same limit = ap (final_portions limit) waitings_same

  -- what is answered,
  pub answer_same : (limit size : ℕ) → round_answer present f limit size ≡ round_answer present g limit size
  unfolding round_answer
  answer_same limit size =
      ap₂ (λ (a : Bool) (c : Bool). by a c (round_parts present f limit))
      (every_same (present_sound present f) (present_sound present g) (test_same (λ k r. sound_of r)))
      (every_same (present_placed present f) (present_placed present g) (test_same (λ k r. eqb r.header.bus 0 && eqb r.header.pins k)))
      ∙ ap (by (every_place (present_sound present g)) (every_place (present_placed present g))) (parts_same limit)
    where
      by : Bool → Bool → List (List Burst) → ListAnswer
      by a c parts =
          cond a
          (cond (leb least_limit limit && leb limit most_limit)
          (cond c (cond (leb (round_size parts) size) (listed (count_all parts) (bytes_all parts)) (refused BufferShort))
          (refused NotItsPlace)) (refused RoundLimit)) (refused Unsound)

  -- and what is written
  pub buffer_same : (limit : ℕ) (buffer : List ℕ) → round_buffer present f limit buffer ≡ round_buffer present g limit buffer
  unfolding round_buffer
  buffer_same limit buffer =
      ap₂ (λ (x : ListAnswer) (parts : List (List Burst)). cond (is_listed x) (over (round_list parts) buffer) buffer)
      (answer_same limit (length buffer)) (parts_same limit)

-- ---- What is given back as it was

module _ (present : ℕ → Bool) (records : ℕ → Record) (limit : ℕ) where
  -- an absent record
  pub absent_kept : (size k : ℕ) → present k ≡ false → round_record present records limit size k ≡ records k
  unfolding round_record
  absent_kept size k e = rw e (go (is_listed (round_answer present records limit size)))
    where
      go : (x : Bool) → cond (x && false) (takes (records k) (part_at (round_parts present records limit) k)) (records k) ≡ records k
      go true = refl
      go false = refl

  -- every record of a refused round
  pub refused_kept : (size k : ℕ) → is_listed (round_answer present records limit size) ≡ false → round_record present records limit size k ≡ records k
  unfolding round_record
  refused_kept size k e = rw e refl

  -- and its buffer
  pub refused_buffer : (buffer : List ℕ) → is_listed (round_answer present records limit (length buffer)) ≡ false →
      round_buffer present records limit buffer ≡ buffer
  unfolding round_buffer
  refused_buffer buffer e = rw e refl
