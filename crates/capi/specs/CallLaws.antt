-- On the bytes of a record a function leaves the bytes of the record that the call of the same name gives back, one law for each
-- call; and on the bytes of a chip those of the chip. So what is claimed of calls on values holds of calls on bytes.
-- Assumes nothing.
use Rattle.std.specs.Prelude.{Ok, Err, ◌≡◌, ℕ, ◌+◌, ◌-◌, ◌*◌, ◌≤◌, length, get_or, set}
use Rattle.std.proofs.Math.Path.{refl, ap}
use Rattle.std.proofs.Common.{sym, ◌∙◌, arith, eqb-true}
use Rattle.std.proofs.Math.Bool.{Bool, true, false, cond}
use Rattle.std.proofs.lemmas.Bool.{false≢true}
use mathlib.Core.List.{List}
use Rattle.map.specs.declared.refusals.Refusal.TheVariants.{Unsound}
use Rattle.map.specs.Refusals.{Answer, answer_number, accepted}
use Rattle.host.specs.declared.Record.{Record}
use Rattle.host.specs.declared.Changed.{Changed}
use Rattle.calls.specs.declared.Setting.{Setting}
use Rattle.host.specs.Record.{locked, open_of, setting_of, power_lost_of, lock_of}
use Rattle.host.proofs.SettingLaws.{Sets, setting_sets, power_refuses, lock_locks, lock_refuses}
use Rattle.update.specs.declared.NotListed.TheVariants.{Short, Refused}
use Rattle.update.specs.declared.Sent.{Sent}
use Rattle.update.specs.Update.{ListAnswer, refused, is_listed, list_number, Sending, send_answer, send_of, send_buffer, updating, update_stored, clear_of}
use Rattle.update.proofs.StoredLaws.{stored_is}
use Rattle.update.specs.SendLaws.{answered, host_kept, buffer_kept, answer_of, clear_leaves}
use Rattle.faults.specs.Faults.{answer_numbers, faults_answer, faults_result}
use Rattle.faults.proofs.FaultLaws.{refuses}
use Rattle.chip.specs.declared.Chip.{Chip}
use Rattle.chip.specs.Chip.{at_reset_of, feed_of}
use Rattle.capi.specs.Capi.{marks_at, record_in, record_bytes, chip_bytes, record_size, record_sized, chip_sized, when_sized, Outcome, setting_number, setting_bytes, setting_outcome, chip_number, chip_after, chip_outcome, list_answer, list_bytes, buffer_after, value_after, n_after, t_after, stored_after, ListOutcome, list_outcome, faults_answer_by, faults_outcome}
use Rattle.capi.specs.CapiLaws.{record_round, marks_stored, record_back, chip_back, record_sized_lem, chip_sized_lem, record_length, chip_length, zero_accepted, zero_listed, list_keeps, stored_keeps, bytes_keep}
use Rattle.capi.specs.Calls.{open_call, setting_call, power_lost_call, lock_call, send_call, update_call, update_answered, update_stores, faults_call, chip_at_reset_call, chip_power_lost_call, chip_feed_call}

-- ---- Calls on values, as outcomes

-- a call that answers a number alone
abbrev pub outcome_of : Changed → Outcome
outcome_of x = record { answer = answer_number x.answer; bytes = record_bytes x.host }

-- a call on a chip
abbrev pub chip_outcome_of : Answer → Chip → Outcome
chip_outcome_of answer c = record { answer = answer_number answer; bytes = chip_bytes c }

-- a call that writes a list, and the buffer as it leaves it
abbrev pub list_outcome_of : Sent → List ℕ → ℕ → ℕ → ListOutcome
list_outcome_of x buffer n t = record {
  answer = list_number x.answer;
  bytes = record_bytes x.host;
  buffer = buffer;
  n = n_after x.answer n;
  t = t_after x.answer t;
}

-- stored where it was accepted, and the same as before where it was refused
pub either : (b : Bool) (new old : List ℕ) → (b ≡ false → new ≡ old) → cond b new old ≡ new
either true new old kept = refl
either false new old kept = sym (kept refl)

-- ---- On a record's bytes

module _ (r : Record) (hs : length r.settings ≡ 908) (hi : length r.image ≡ 908) where
  sized : record_sized (record_bytes r) ≡ true
  sized = record_sized_lem (record_bytes r) (record_length r hs hi)

  setting_stored : (x : Changed) → (accepted x.answer ≡ false → x.host ≡ r) → setting_outcome (record_bytes r) x ≡ outcome_of x
  unfolding setting_number setting_bytes when_sized
  setting_stored x kept =
      rw sized
      (ap (λ (l : List ℕ). record { answer = answer_number x.answer; bytes = l })
      (either (accepted x.answer) (record_bytes x.host) (record_bytes r) (λ e. ap record_bytes (kept e))))

  -- a call on the record that the bytes hold
  setting_call_lem : (f : Record → Changed) → (accepted (f r).answer ≡ false → (f r).host ≡ r) →
      setting_outcome (record_bytes r) (f (record_in (record_bytes r))) ≡ outcome_of (f r)
  setting_call_lem f kept = ap (λ (x : Record). setting_outcome (record_bytes r) (f x)) (record_back r hs hi) ∙ setting_stored (f r) kept

  refused_stays : (answer : Answer) (new : List ℕ) (x : Changed) → Sets r answer new x → accepted x.answer ≡ false → x.host ≡ r
  refused_stays answer new x s e = s.refuses (sym (ap accepted s.answered) ∙ e)

  pub setting_of_call : (q : Setting) (lent : List ℕ) → setting_call (record_bytes r) q lent ≡ outcome_of (setting_of r q lent)
  setting_of_call q lent = setting_call_lem (λ (x : Record). setting_of x q lent) (refused_stays _ _ _ (setting_sets r q lent))

  power_kept : accepted (power_lost_of r).answer ≡ false → (power_lost_of r).host ≡ r
  unfolding power_lost_of
  power_kept e = power_refuses r e

  pub power_lost_call_lem : power_lost_call (record_bytes r) ≡ outcome_of (power_lost_of r)
  power_lost_call_lem = setting_call_lem power_lost_of power_kept

  lock_kept : accepted (lock_of r).answer ≡ false → (lock_of r).host ≡ r
  unfolding lock_of
  lock_kept e = lock_refuses r e

  pub lock_call_lem : lock_call (record_bytes r) ≡ outcome_of (lock_of r)
  lock_call_lem = setting_call_lem lock_of lock_kept

  list_stored : (x : Sent) (new buffer : List ℕ) (n t : ℕ) → (is_listed x.answer ≡ false → x.host ≡ r) →
      list_outcome (record_bytes r) x new buffer n t ≡ list_outcome_of x new n t
  unfolding list_answer list_bytes buffer_after
  list_stored x new buffer n t kept =
      rw sized
      (ap (λ (l : List ℕ). record {
        answer = list_number x.answer;
        bytes = l;
        buffer = new;
        n = n_after x.answer n;
        t = t_after x.answer t;
      })
      (either (is_listed x.answer) (record_bytes x.host) (record_bytes r) (λ e. ap record_bytes (kept e))))

  -- a call that sends
  pub send_call_lem : (f : Record → Sending) (buffer : List ℕ) (n t : ℕ) →
      send_call f (record_bytes r) buffer n t ≡ list_outcome_of (send_of r (f r) (length buffer)) (send_buffer r (f r) buffer) n t
  send_call_lem f buffer n t =
      ap (λ (x : Record). list_outcome (record_bytes r) (send_of x (f x) (length buffer)) (send_buffer x (f x) buffer) buffer n t) (record_back r hs hi)
      ∙ list_stored (send_of r (f r) (length buffer)) (send_buffer r (f r) buffer) buffer n t
      (λ e. host_kept r (f r) (length buffer) (sym (ap is_listed (answer_of r (f r) (length buffer))) ∙ e))

  -- Faults, which only reads the record
  pub faults_call_lem : (given result : List ℕ) (opens shorts : ℕ) →
      faults_call (record_bytes r) given result opens shorts ≡ faults_outcome (faults_answer r given result) (faults_result r given result) opens shorts
  unfolding faults_answer_by buffer_after
  faults_call_lem given result opens shorts = rw (record_back r hs hi, sized) refl

-- Clear leaves the record's bytes, which it only reads
pub clear_bytes : (bytes : List ℕ) (size : ℕ) → length bytes ≡ record_size → list_bytes bytes (clear_of (record_in bytes) size) ≡ bytes
unfolding list_bytes
clear_bytes bytes size h =
    go (is_listed (list_answer bytes (clear_of (record_in bytes) size)))
  where
    go : (b : Bool) → cond b (record_bytes (clear_of (record_in bytes) size).host) bytes ≡ bytes
    go true = ap record_bytes (clear_leaves (record_in bytes) size) ∙ record_round bytes h
    go false = refl

-- ---- On a chip's bytes

module _ (c : Chip) (h : length c.registers ≡ 908) where
  chip_stored : (answer : Answer) (d : Chip) → (accepted answer ≡ false → d ≡ c) → chip_outcome (chip_bytes c) answer d ≡ chip_outcome_of answer d
  unfolding chip_number chip_after when_sized
  chip_stored answer d kept =
      rw (chip_sized_lem (chip_bytes c) (chip_length c h))
      (ap (λ (l : List ℕ). record { answer = answer_number answer; bytes = l })
      (either (accepted answer) (chip_bytes d) (chip_bytes c) (λ e. ap chip_bytes (kept e))))

  feed_kept : (list : List ℕ) → accepted (feed_of c list).answer ≡ false → (feed_of c list).chip ≡ c
  unfolding feed_of
  feed_kept list e = rw e refl

  pub feed_call : (list : List ℕ) → chip_feed_call (chip_bytes c) list ≡ chip_outcome_of (feed_of c list).answer (feed_of c list).chip
  feed_call list =
      ap (λ (x : Chip). chip_outcome (chip_bytes c) (feed_of x list).answer (feed_of x list).chip) (chip_back c h)
      ∙ chip_stored (feed_of c list).answer (feed_of c list).chip (feed_kept list)

  pub chip_power_lost_call_lem : chip_power_lost_call (chip_bytes c) ≡ chip_outcome_of (Ok tt) (Rattle.chip.specs.Chip.power_lost_of c)
  chip_power_lost_call_lem =
      ap (λ (x : Chip). chip_outcome (chip_bytes c) (Ok tt) (Rattle.chip.specs.Chip.power_lost_of x)) (chip_back c h)
      ∙ chip_stored (Ok tt) (Rattle.chip.specs.Chip.power_lost_of c) (λ e. absurd (false≢true (sym e)))

-- ---- Opened

-- a call that answers 0 was lent bytes of the right size, and was accepted
zero_sized : (sized : Bool) (answer : Answer) → answer_number (when_sized sized answer) ≡ 0 → (sized ≡ true) × (accepted answer ≡ true)
unfolding when_sized
zero_sized true answer e = (refl, zero_accepted answer e)
zero_sized false answer e = absurd (false≢true (zero_accepted (Err Unsound) e))

module _ (m b p : ℕ) (bytes : List ℕ) where
  -- lp586x_open that answers 0 was accepted,
  pub open_accepted : (open_call bytes m b p).answer ≡ 0 → accepted (open_of m b p).answer ≡ true
  unfolding setting_number
  open_accepted e = (zero_sized (record_sized bytes) (open_of m b p).answer e).1

  -- and leaves the bytes of the record that Open gives back,
  pub open_bytes : (open_call bytes m b p).answer ≡ 0 → (open_call bytes m b p).bytes ≡ record_bytes (open_of m b p).host
  unfolding setting_number setting_bytes
  open_bytes e = rw (zero_accepted (when_sized (record_sized bytes) (open_of m b p).answer) e) refl

  -- as lp586x_chip_at_reset those of the chip
  pub at_reset_bytes : (chip_at_reset_call bytes m b p).answer ≡ 0 → (chip_at_reset_call bytes m b p).bytes ≡ chip_bytes (at_reset_of m b p).chip
  unfolding chip_number chip_after
  at_reset_bytes e = rw (zero_accepted (when_sized (chip_sized bytes) (at_reset_of m b p).answer) e) refl

-- ---- Locked

-- lp586x_lock that answers 0 "Changes record, of it the marks alone": one byte
pub lock_stores : (bytes : List ℕ) → (lock_call bytes).answer ≡ 0 → (lock_call bytes).bytes ≡ set bytes marks_at locked
unfolding setting_number setting_bytes record_sized lock_of
lock_stores bytes z =
    let t = zero_sized (record_sized bytes) (lock_of (record_in bytes)).answer z in
    rw (zero_accepted (when_sized (record_sized bytes) (lock_of (record_in bytes)).answer) z)
    (ap record_bytes (lock_locks (record_in bytes) t.1)
    ∙ sym (marks_stored (record_in bytes) locked)
    ∙ ap (λ (l : List ℕ). set l marks_at locked) (record_round bytes (eqb-true (length bytes) record_size t.0)))

-- ---- Calls that send

module _ (f : Record → Sending) (bytes buffer : List ℕ) (n t : ℕ) where
  abbrev r : Record
  r = record_in bytes

  -- The list of an answer of 0 stands in the buffer that was lent.
  pub send_inside : is_listed (f r).short ≡ false → (send_call f bytes buffer n t).answer ≡ 0 →
      4 + 2 * (send_call f bytes buffer n t).n + (send_call f bytes buffer n t).t ≤ length buffer
  unfolding list_answer send_of value_after
  send_inside s z = go (record_sized bytes) z
    where
      answer : Bool → ListAnswer
      answer b = cond b (send_answer r (f r) (length buffer)) (refused Unsound)

      listed : (x : ListAnswer) → send_answer r (f r) (length buffer) ≡ x → list_number x ≡ 0 → 4 + 2 * n_after x n + t_after x t ≤ length buffer
      listed (Ok l) e y =
          let a = answered r (f r) s (length buffer) l.n l.t e in omega (arith, a.room, a.n_is, a.t_is)
      listed (Err (Short needed)) e y = absurd (false≢true (zero_listed (Err (Short needed)) y))
      listed (Err (Refused x)) e y = absurd (false≢true (zero_listed (Err (Refused x)) y))

      go : (b : Bool) → list_number (answer b) ≡ 0 → 4 + 2 * n_after (answer b) n + t_after (answer b) t ≤ length buffer
      go true y = listed (send_answer r (f r) (length buffer)) refl y
      go false y = absurd (false≢true (zero_listed (refused Unsound) y))

  -- the record, the buffer, n and t are as they were
  pub record Unchanged : Type 0 where
    pub bytes_stay : (send_call f bytes buffer n t).bytes ≡ bytes
    pub buffer_stays : (send_call f bytes buffer n t).buffer ≡ buffer
    pub n_stays : (send_call f bytes buffer n t).n ≡ n
    pub t_stays : (send_call f bytes buffer n t).t ≡ t

  -- "A refused call changes no byte that was lent to it"
  pub send_refused : ((send_call f bytes buffer n t).answer ≡ 0 → ⊥) → Unchanged
  unfolding list_answer buffer_after send_of
  send_refused z = record {
    bytes_stay = bytes_keep bytes (send_of r (f r) (length buffer)) z;
    buffer_stays = lent (record_sized bytes) z;
    n_stays = (list_keeps (list_answer bytes (send_of r (f r) (length buffer))) z).n_stays n;
    t_stays = (list_keeps (list_answer bytes (send_of r (f r) (length buffer))) z).t_stays t;
  }
    where
      lent : (b : Bool) → (list_number (cond b (send_of r (f r) (length buffer)).answer (refused Unsound)) ≡ 0 → ⊥) →
          cond b (send_buffer r (f r) buffer) buffer ≡ buffer
      lent true y = buffer_kept r (f r) buffer (list_keeps (send_answer r (f r) (length buffer)) y).unlisted
      lent false y = refl

-- ---- Faults

module _ (bytes given result : List ℕ) (opens shorts : ℕ) where
  -- the result and both answers are as they were
  pub record FaultsKept : Type 0 where
    pub result_stays : (faults_call bytes given result opens shorts).result ≡ result
    pub opens_stay : (faults_call bytes given result opens shorts).opens ≡ opens
    pub shorts_stay : (faults_call bytes given result opens shorts).shorts ≡ shorts

  -- "A refused call changes no byte that was lent to it"
  pub faults_refused : ((faults_call bytes given result opens shorts).answer ≡ 0 → ⊥) → FaultsKept
  unfolding faults_answer_by buffer_after answer_numbers
  faults_refused = go (record_sized bytes) refl
    where
      go : (b : Bool) → record_sized bytes ≡ b →
          (get_or (answer_numbers (cond b (faults_answer (record_in bytes) given result) (Err Unsound))) 0 0 ≡ 0 → ⊥) → FaultsKept
      go false e z = record { result_stays = rw e refl; opens_stay = rw e refl; shorts_stay = rw e refl }
      go true e z =
          let x = refuses (record_in bytes) given result z in
          record { result_stays = rw e x.result_stays; opens_stay = rw e (x.no_opens opens); shorts_stay = rw e (x.no_shorts shorts) }

-- ---- What an update stores: document 02, Q-4

module _ (bytes buffer : List ℕ) (n t stored : ℕ) where
  -- with 0 it is "t less 2n"
  pub update_stores_lem : (update_call bytes buffer n t).answer ≡ 0 →
      update_stores bytes buffer stored ≡ (update_call bytes buffer n t).t - 2 * (update_call bytes buffer n t).n
  unfolding list_answer send_of value_after
  update_stores_lem z = go (record_sized bytes) z
    where
      listed : (x : ListAnswer) → send_answer (record_in bytes) (updating (record_in bytes)) (length buffer) ≡ x → list_number x ≡ 0 →
          stored_after x (update_stored (record_in bytes) (length buffer)) stored ≡ t_after x t - 2 * n_after x n
      listed (Ok l) e y = stored_is (record_in bytes) (length buffer) l.n l.t e
      listed (Err (Short needed)) e y = absurd (false≢true (zero_listed (Err (Short needed)) y))
      listed (Err (Refused x)) e y = absurd (false≢true (zero_listed (Err (Refused x)) y))

      answer : Bool → ListAnswer
      answer b = cond b (send_answer (record_in bytes) (updating (record_in bytes)) (length buffer)) (refused Unsound)

      go : (b : Bool) → list_number (answer b) ≡ 0 →
          stored_after (answer b) (update_stored (record_in bytes) (length buffer)) stored ≡ t_after (answer b) t - 2 * n_after (answer b) n
      go true y = listed (send_answer (record_in bytes) (updating (record_in bytes)) (length buffer)) refl y
      go false y = absurd (false≢true (zero_listed (refused Unsound) y))

  -- and "A refused call changes no byte that was lent to it"
  pub update_refused : ((update_call bytes buffer n t).answer ≡ 0 → ⊥) → update_stores bytes buffer stored ≡ stored
  update_refused z = stored_keeps (update_answered bytes buffer) (update_stored (record_in bytes) (length buffer)) stored z
