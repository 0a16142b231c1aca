-- Laws of lp586x_round: on the bytes of four records it leaves the bytes of the records that the round gives back; what a refusal
-- leaves; where a list that was written stands; and that a buffer of LP586X_ROUND_SIZE is never too short.
-- Assumes nothing.
use Rattle.std.specs.Prelude.{◌≡◌, Bool, ℕ, ◌+◌, ◌*◌, ◌≤◌, ◌<◌, drop}
use Rattle.std.proofs.Math.Path.{refl}
use Rattle.std.proofs.Common.{sym, ap, ◌∙◌, arith, length-append, drop_at, drop-drop}
use Rattle.std.proofs.Math.Bool.{true, false, cond}
use Rattle.std.proofs.lemmas.Bool.{false≢true}
use mathlib.Core.List.{List, [], ◌∷◌, ◌++◌}
use Rattle.std.proofs.Math.ListN.{length}
use Rattle.map.specs.declared.refusals.Refusal.TheVariants.{Unsound}
use Rattle.host.specs.declared.Record.{Record}
use Rattle.host.specs.Record.{sound_of}
use Rattle.update.specs.Update.{ListAnswer, refused, is_listed, list_number}
use Rattle.rounds.specs.declared.Rounded.{Rounded}
use Rattle.rounds.specs.Round.{least_limit, most_limit, present_at, record_at, round_answer, round_buffer, round_of, present_by}
use Rattle.rounds.proofs.DealLaws.{round_takes}
use Rattle.rounds.proofs.AcceptLaws.{round_most, round_accepts}
use Rattle.rounds.specs.AbsentLaws.{refused_kept, refused_buffer}
use Rattle.capi.specs.Capi.{record_in, record_bytes, record_size, place_at, records_in, records_bytes, round_sized, round_answer_by, value_after, n_after, t_after, ListOutcome, round_outcome}
use Rattle.capi.specs.CapiLaws.{Whole, record_begins, record_back, record_length, round_sized_lem, zero_listed, list_keeps}
use Rattle.capi.specs.Calls.{round_call}
use Rattle.capi.specs.CallLaws.{either}

-- ---- Four records read back

-- four records with whole images
abbrev pub AllWhole : List Record → Type 0
AllWhole r = (k : ℕ) → k < 4 → Whole (record_at r k)

module _ (r : List Record) (w : AllWhole r) where
  length_at_lem : (k : ℕ) → k < 4 → length (record_bytes (record_at r k)) ≡ record_size
  length_at_lem k l = record_length (record_at r k) (w k l).0 (w k l).1

  -- their bytes have the size of four records
  pub records_length : length (records_bytes r) ≡ place_at 4
  records_length =
      omega (
        arith,
        length-append (record_bytes (record_at r 0)) (record_bytes (record_at r 1) ++ (record_bytes (record_at r 2) ++ record_bytes (record_at r 3))),
        length-append (record_bytes (record_at r 1)) (record_bytes (record_at r 2) ++ record_bytes (record_at r 3)),
        length-append (record_bytes (record_at r 2)) (record_bytes (record_at r 3)),
        length_at_lem 0 (omega arith),
        length_at_lem 1 (omega arith),
        length_at_lem 2 (omega arith),
        length_at_lem 3 (omega arith),
      )

  behind_one : drop (place_at 1) (records_bytes r) ≡ record_bytes (record_at r 1) ++ (record_bytes (record_at r 2) ++ record_bytes (record_at r 3))
  behind_one = drop_at (record_bytes (record_at r 0)) _ record_size (length_at_lem 0 (omega arith))

  behind_two : drop (place_at 2) (records_bytes r) ≡ record_bytes (record_at r 2) ++ record_bytes (record_at r 3)
  behind_two =
      sym (drop-drop record_size (place_at 1) (records_bytes r)) ∙ ap (drop record_size) behind_one
      ∙ drop_at (record_bytes (record_at r 1)) _ record_size (length_at_lem 1 (omega arith))

  behind_three : drop (place_at 3) (records_bytes r) ≡ record_bytes (record_at r 3)
  behind_three =
      sym (drop-drop record_size (place_at 2) (records_bytes r)) ∙ ap (drop record_size) behind_two
      ∙ drop_at (record_bytes (record_at r 2)) _ record_size (length_at_lem 2 (omega arith))

-- ---- On the bytes of four records

-- a call on values, and the buffer as it leaves it
abbrev pub round_outcome_of : Rounded → List ℕ → ℕ → ℕ → ListOutcome
round_outcome_of x buffer n t = record {
  answer = list_number x.answer;
  bytes = records_bytes x.records;
  buffer = buffer;
  n = n_after x.answer n;
  t = t_after x.answer t;
}

-- four records are those at the four places
four_places : (r : List Record) → length r ≡ 4 → record_at r 0 ∷ record_at r 1 ∷ record_at r 2 ∷ record_at r 3 ∷ [] ≡ r
four_places [] h = absurd (omega arith)
four_places (a ∷ []) h = absurd (omega arith)
four_places (a ∷ b ∷ []) h = absurd (omega arith)
four_places (a ∷ b ∷ c ∷ []) h = absurd (omega arith)
four_places (a ∷ b ∷ c ∷ d ∷ []) h = refl
four_places (a ∷ b ∷ c ∷ d ∷ e ∷ rest) h = absurd (omega arith)

module _ (r : List Record) (four : length r ≡ 4) (w : AllWhole r) where
  -- four records are read back from their bytes
  pub records_back : records_in (records_bytes r) ≡ r
  records_back =
      all
      (record_begins (record_at r 0) (w 0 (omega arith)) (record_bytes (record_at r 1) ++ (record_bytes (record_at r 2) ++ record_bytes (record_at r 3))))
      (ap record_in (behind_one r w) ∙ record_begins (record_at r 1) (w 1 (omega arith)) (record_bytes (record_at r 2) ++ record_bytes (record_at r 3)))
      (ap record_in (behind_two r w) ∙ record_begins (record_at r 2) (w 2 (omega arith)) (record_bytes (record_at r 3)))
      (ap record_in (behind_three r w) ∙ record_back (record_at r 3) (w 3 (omega arith)).0 (w 3 (omega arith)).1)
    where
      all : {a b c d : Record} → a ≡ record_at r 0 → b ≡ record_at r 1 → c ≡ record_at r 2 → d ≡ record_at r 3 → a ∷ b ∷ c ∷ d ∷ [] ≡ r
      all ea eb ec ed = rw (ea, eb, ec, ed) (four_places r four)

  -- a refused round gives back the records that it was given
  records_kept : (p : List Bool) (limit size : ℕ) → is_listed (round_of r p limit size).answer ≡ false → records_bytes (round_of r p limit size).records ≡ records_bytes r
  unfolding round_of
  records_kept p limit size e =
      rw (
        refused_kept (present_at p) (record_at r) limit size 0 e,
        refused_kept (present_at p) (record_at r) limit size 1 e,
        refused_kept (present_at p) (record_at r) limit size 2 e,
        refused_kept (present_at p) (record_at r) limit size 3 e,
      ) refl

  round_stored : (present : ℕ) → present ≤ 15 → (x : Rounded) (new buffer : List ℕ) (n t : ℕ) →
      (is_listed x.answer ≡ false → records_bytes x.records ≡ records_bytes r) → round_outcome (records_bytes r) present x new buffer n t ≡ round_outcome_of x new n t
  unfolding round_answer_by
  round_stored present h x new buffer n t kept =
      rw (round_sized_lem (records_bytes r) present (records_length r w) h)
      (ap (λ (l : List ℕ). record {
        answer = list_number x.answer;
        bytes = l;
        buffer = new;
        n = n_after x.answer n;
        t = t_after x.answer t;
      })
      (either (is_listed x.answer) (records_bytes x.records) (records_bytes r) kept))

  -- lp586x_round is the round on the records
  pub round_call_lem : (present limit : ℕ) → present ≤ 15 → (buffer : List ℕ) (n t : ℕ) →
      round_call (records_bytes r) present limit buffer n t ≡
      round_outcome_of (round_of r (present_by present) limit (length buffer)) (round_buffer (present_at (present_by present)) (record_at r) limit buffer) n t
  round_call_lem present limit h buffer n t =
      ap (λ (y : List Record).
      round_outcome (records_bytes r) present (round_of y (present_by present) limit (length buffer)) (round_buffer (present_at (present_by present)) (record_at y) limit buffer) buffer n t)
      records_back
      ∙ round_stored present h (round_of r (present_by present) limit (length buffer)) (round_buffer (present_at (present_by present)) (record_at r) limit buffer) buffer n t
      (records_kept (present_by present) limit (length buffer))

-- ---- On any bytes

module _ (bytes : List ℕ) (present limit : ℕ) (buffer : List ℕ) (n t : ℕ) where
  abbrev p : List Bool
  p = present_by present

  abbrev r : List Record
  r = records_in bytes

  abbrev answer : Bool → ListAnswer
  answer b = cond b (round_answer (present_at p) (record_at r) limit (length buffer)) (refused Unsound)

  -- The list of an answer of 0 stands in the buffer that was lent.
  pub round_inside : (round_call bytes present limit buffer n t).answer ≡ 0 →
      4 + 2 * (round_call bytes present limit buffer n t).n + (round_call bytes present limit buffer n t).t ≤ length buffer
  unfolding round_answer_by round_of value_after
  round_inside z = go (round_sized bytes present) z
    where
      listed : is_listed (answer true) ≡ true → 4 + 2 * n_after (answer true) n + t_after (answer true) t ≤ length buffer
      listed l = let x = round_takes (present_at p) (record_at r) limit (length buffer) l in rw x.answer (omega (arith, x.room))

      go : (b : Bool) → list_number (answer b) ≡ 0 → 4 + 2 * n_after (answer b) n + t_after (answer b) t ≤ length buffer
      go true y = listed (zero_listed (answer true) y)
      go false y = absurd (false≢true (zero_listed (answer false) y))

  -- the records, the buffer, n and t are as they were
  pub record RoundKept : Type 0 where
    pub bytes_stay : (round_call bytes present limit buffer n t).bytes ≡ bytes
    pub buffer_stays : (round_call bytes present limit buffer n t).buffer ≡ buffer
    pub n_stays : (round_call bytes present limit buffer n t).n ≡ n
    pub t_stays : (round_call bytes present limit buffer n t).t ≡ t

  -- "A refused call changes no byte that was lent to it"
  pub round_refused : ((round_call bytes present limit buffer n t).answer ≡ 0 → ⊥) → RoundKept
  unfolding round_answer_by round_of
  round_refused z =
      let k = list_keeps (answer (round_sized bytes present)) z in
      record {
        bytes_stay = rw k.unlisted refl;
        buffer_stays = lent (round_sized bytes present) k.unlisted;
        n_stays = k.n_stays n;
        t_stays = k.t_stays t;
      }
    where
      lent : (b : Bool) → is_listed (answer b) ≡ false → cond b (round_buffer (present_at p) (record_at r) limit buffer) buffer ≡ buffer
      lent true e = refused_buffer (present_at p) (record_at r) limit buffer e
      lent false e = refl

  -- "A buffer of this size is never too short for lp586x_round.": where the present records are sound and at their places, it answers 0
  pub round_accepted : length bytes ≡ place_at 4 → present ≤ 15 →
      ((k : ℕ) → k < 4 → present_at p k ≡ true → sound_of (record_at r k) ≡ true) →
      ((k : ℕ) → k < 4 → present_at p k ≡ true → (record_at r k).header.bus ≡ 0) →
      ((k : ℕ) → k < 4 → present_at p k ≡ true → (record_at r k).header.pins ≡ k) →
      least_limit ≤ limit → limit ≤ most_limit → round_most ≤ length buffer → (round_call bytes present limit buffer n t).answer ≡ 0
  unfolding round_answer_by round_of
  round_accepted h m sound bus pins least most room =
      rw (round_sized_lem bytes present h m) (ap list_number (round_accepts (present_at p) (record_at r) sound limit bus pins least most (length buffer) room))
