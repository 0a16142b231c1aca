-- The record of a place, of the four that are lent.
-- Assumes nothing.
use Rattle.std.proofs.Common.{◌≡◌, Bool, true, false, ℕ, zero, suc, ◌+◌, ◌*◌, ◌<◌, ◌≤◌, List, [], ◌∷◌, length, map, min, get_or, refl, sym, ap, ap₂, ◌∙◌, subst, arith}
use Rattle.burst.specs.Burst.{Burst}
use Rattle.plan.specs.Portion.{portion}
use Rattle.host.specs.declared.Record.{Record}
use Rattle.host.specs.declared.RecordRef.{RecordRef}
use Rattle.host.specs.Record.{record_behind}
use Rattle.rounds.specs.Round.{waiting, present_at, no_record}
use Rattle.rounds.specs.Parts.{Sized}
use Rattle.rounds.specs.Dealing.{records_of, waiting_of, Waits, AllWait}

-- the place of a number below 4 is that number
pub place_same : (k : ℕ) → k < 4 → min k 3 ≡ k
place_same k h = omega arith

-- what is lent at each place of a list of any length
pub behind_at : (rs : List RecordRef) (k : ℕ) (r : RecordRef) → k < length rs → get_or (map record_behind rs) k no_record ≡ record_behind (get_or rs k r)
behind_at [] k r h = absurd (omega arith)
behind_at (x ∷ rs) zero r h = refl
behind_at (x ∷ rs) (suc k) r h = behind_at rs k r (omega arith)

pub lent_at : (rs : List RecordRef) (k : ℕ) (r : RecordRef) → k < length rs → k < 4 → records_of rs k ≡ record_behind (get_or rs k r)
lent_at rs k r h l = ap (λ (j : ℕ). get_or (map record_behind rs) j no_record) (place_same k l) ∙ behind_at rs k r h

-- and its mark
pub mark_at : (present : List Bool) (k : ℕ) → k < 4 → present_at present k ≡ get_or present k false
mark_at present k l = ap (λ (j : ℕ). get_or present j false) (place_same k l)

module _ (present : List Bool) (rs : List RecordRef) (n : length rs ≡ 4) (k : ℕ) (r : RecordRef) (h : k < 4) where
  at : records_of rs k ≡ record_behind (get_or rs k r)
  at = lent_at rs k r (omega (arith, n)) h

  -- it is sound if it is present
  pub waits_at : AllWait (present_at present) (records_of rs) → Waits (get_or present k false) (record_behind (get_or rs k r))
  waits_at a = subst (λ (b : Bool). Waits b (record_behind (get_or rs k r))) (mark_at present k h) (subst (Waits (present_at present k)) at (a k h))

  -- and what waits there is what waits at the place
  pub waiting_at_lem : waiting_of (get_or present k false) (record_behind (get_or rs k r)) ≡ waiting (present_at present) (records_of rs) k
  waiting_at_lem = ap₂ waiting_of (sym (mark_at present k h)) (sym at)

  pub sized_at : (room count bytes : ℕ) → Sized (portion room (waiting_of (get_or present k false) (record_behind (get_or rs k r)))) count bytes →
      Sized (portion room (waiting (present_at present) (records_of rs) k)) count bytes
  sized_at room count bytes s = subst (λ (w : List Burst). Sized (portion room w) count bytes) waiting_at_lem s

  pub free_at : (room index at : ℕ) → 4 + 2 * (index + length (portion room (waiting (present_at present) (records_of rs) k))) ≤ at →
      4 + 2 * (index + length (portion room (waiting_of (get_or present k false) (record_behind (get_or rs k r))))) ≤ at
  free_at room index at f = subst (λ (w : List Burst). 4 + 2 * (index + length (portion room w)) ≤ at) (sym waiting_at_lem) f
