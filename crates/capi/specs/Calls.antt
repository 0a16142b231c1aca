-- What each function of include/lp586x.h answers and leaves: the call of the same name, on the record or the chip that the bytes
-- hold. The functions' promises are these definitions, and so is the claim about whole lists of C calls (the crate panel).
-- Assumes nothing.
use Rattle.std.specs.Prelude.{Ok, List, ℕ, length}
use Rattle.map.specs.declared.refusals.Numbers.{Numbers}
use Rattle.burst.specs.Burst.{place_of}
use Rattle.calls.specs.declared.Setting.{Setting}
use Rattle.host.specs.Record.{open_of, setting_of, power_lost_of, lock_of}
use Rattle.host.specs.declared.Record.{Record}
use Rattle.update.specs.Update.{ListAnswer, Sending, send_of, send_buffer, updating, update_stored, resetting, clearing}
use Rattle.rounds.specs.Round.{present_at, record_at, round_buffer, round_of, present_by}
use Rattle.faults.specs.Faults.{faults_answer, faults_result}
use Rattle.chip.specs.Chip.{at_reset_of, feed_of}
use Rattle.capi.specs.Capi.{record_in, chip_in, Outcome, setting_outcome, sized_numbers, chip_outcome, list_answer, stored_after, needed_after, ListOutcome, list_outcome, buffer_after, records_in, round_outcome, PlaceOutcome, place_outcome, faults_answer_by, FaultsOutcome, faults_outcome}

-- ---- The record and its settings

-- lp586x_open
abbrev pub open_call : List ℕ → ℕ → ℕ → ℕ → Outcome
open_call bytes m b p = setting_outcome bytes (open_of m b p)

-- any setting: lp586x_register, lp586x_lamp, lp586x_group, lp586x_switch and lp586x_scene are one each
abbrev pub setting_call : List ℕ → Setting → List ℕ → Outcome
setting_call bytes q lent = setting_outcome bytes (setting_of (record_in bytes) q lent)

-- and the number and values that it answers
abbrev pub setting_numbers_call : List ℕ → Setting → List ℕ → Numbers
setting_numbers_call bytes q lent = sized_numbers bytes (setting_of (record_in bytes) q lent)

-- lp586x_power_lost
abbrev pub power_lost_call : List ℕ → Outcome
power_lost_call bytes = setting_outcome bytes (power_lost_of (record_in bytes))

-- lp586x_lock
abbrev pub lock_call : List ℕ → Outcome
lock_call bytes = setting_outcome bytes (lock_of (record_in bytes))

-- ---- Lists of bus writes

-- a call that sends: f says what, of the record that the bytes hold
abbrev pub send_call : (Record → Sending) → List ℕ → List ℕ → ℕ → ℕ → ListOutcome
send_call f bytes buffer n t =
    list_outcome bytes (send_of (record_in bytes) (f (record_in bytes)) (length buffer)) (send_buffer (record_in bytes) (f (record_in bytes)) buffer) buffer n t

-- lp586x_update
abbrev pub update_call : List ℕ → List ℕ → ℕ → ℕ → ListOutcome
update_call = send_call updating

-- its answer, by the size of the bytes
abbrev pub update_answered : List ℕ → List ℕ → ListAnswer
update_answered bytes buffer = list_answer bytes (send_of (record_in bytes) (updating (record_in bytes)) (length buffer))

-- and what only this call stores: how many bytes of the chip image it stored,
abbrev pub update_stores : List ℕ → List ℕ → ℕ → ℕ
update_stores bytes buffer stored = stored_after (update_answered bytes buffer) (update_stored (record_in bytes) (length buffer)) stored

-- or the length needed
abbrev pub update_needed : List ℕ → List ℕ → ℕ → ℕ
update_needed bytes buffer needed = needed_after (update_answered bytes buffer) needed

-- lp586x_reset
abbrev pub reset_call : List ℕ → List ℕ → ℕ → ℕ → ListOutcome
reset_call = send_call resetting

-- lp586x_clear
abbrev pub clear_call : List ℕ → List ℕ → ℕ → ℕ → ListOutcome
clear_call = send_call clearing

-- lp586x_round: of four records, and the marks of those that are present
abbrev pub round_call : List ℕ → ℕ → ℕ → List ℕ → ℕ → ℕ → ListOutcome
round_call bytes present limit buffer n t =
    let r = records_in bytes in
    let p = present_by present in
    round_outcome bytes present (round_of r p limit (length buffer)) (round_buffer (present_at p) (record_at r) limit buffer) buffer n t

-- lp586x_transaction
abbrev pub transaction_call : List ℕ → ℕ → ℕ → ℕ → PlaceOutcome
transaction_call list index offset size = place_outcome (place_of list index) offset size

-- ---- Lamp faults

-- lp586x_faults: given are the fault bytes
abbrev pub faults_call : List ℕ → List ℕ → List ℕ → ℕ → ℕ → FaultsOutcome
faults_call bytes given result opens shorts =
    faults_outcome (faults_answer_by bytes (faults_answer (record_in bytes) given result)) (buffer_after bytes (faults_result (record_in bytes) given result) result)
    opens shorts

-- ---- The chip model

-- lp586x_chip_at_reset
abbrev pub chip_at_reset_call : List ℕ → ℕ → ℕ → ℕ → Outcome
chip_at_reset_call bytes m b p = chip_outcome bytes (at_reset_of m b p).answer (at_reset_of m b p).chip

-- lp586x_chip_power_lost
abbrev pub chip_power_lost_call : List ℕ → Outcome
chip_power_lost_call bytes = chip_outcome bytes (Ok tt) (Rattle.chip.specs.Chip.power_lost_of (chip_in bytes))

-- lp586x_chip_feed
abbrev pub chip_feed_call : List ℕ → List ℕ → Outcome
chip_feed_call bytes list = chip_outcome bytes (feed_of (chip_in bytes) list).answer (feed_of (chip_in bytes) list).chip
