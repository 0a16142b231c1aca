-- A bus failure is mended by an accepted Reset: `reset_recovers` and, for whole lists of events, `recovered_lists`.
-- Assumes nothing.
use Rattle.std.specs.Prelude.{◌≡◌, refl, true, ℕ, ◌≤◌, length}
use Rattle.std.proofs.Common.{sym, ap₂, ◌∙◌, subst}
use Rattle.std.proofs.Math.Path.{ap}
use mathlib.Core.List.{List, ◌∷◌, ◌++◌}
use Rattle.map.specs.Images.{reset_image}
use Rattle.map.specs.Refusals.{accepted}
use Rattle.dots.specs.DotImages.{reset_image_lem}
use Rattle.burst.specs.Burst.{Burst, encode}
use Rattle.calls.specs.declared.Request.TheVariants.{Reset}
use Rattle.host.specs.declared.Record.{Record}
use Rattle.host.specs.Record.{header_of, record_of, free, sound_of, open_of}
use Rattle.host.specs.LockLaws.{free_marks}
use Rattle.host.proofs.SoundLaws.{Sound, sound_is}
use Rattle.update.specs.Update.{ListAnswer, listed, over, send_answer, resetting}
use Rattle.update.specs.SendLaws.{Answered, answered, list_is, host_is, answer_of, send_listed}
use Rattle.chip.specs.declared.Chip.{Chip}
use Rattle.chip.specs.declared.Fed.{Fed}
use Rattle.chip.specs.Chip.{chip_of, new_chip, apply_all, feed_of}
use Rattle.chip.specs.ChipLaws.{reset_registers, all_registers, is_sound}
use Rattle.chip.specs.FeedLaws.{feed_reset}
use Rattle.history.specs.declared.World.{World}
use Rattle.history.specs.declared.CallAnswer as answers
use Rattle.history.specs.Ledger.{entries}
use Rattle.history.proofs.LedgerLaws.{enters_nothing}
use Rattle.history.specs.Step.{list_in, fed_by, step_of}
use Rattle.history.specs.History.{Call, start}
use Rattle.demand.specs.Events.{Event, call, world_after, tell, told, ledger_after}
use Rattle.demand.proofs.WorldLaws.{front, world_of, Holds, is_so, history_holds, told_alone, ledger_append}
use Rattle.demand.proofs.Theorem.{list_of, holds_owes, opened}
use Rattle.demand.specs.Recovery.{failed, ResetAnswers, reset_world, RecoveredLists}

-- ---- an accepted Reset

-- of a record with any image, beside a sound chip with any registers
module _ (m b p marks : ℕ) (s image registers : List ℕ) (chip_sound : Rattle.chip.specs.Chip.sound_of (chip_of m b p registers) ≡ true)
    (buffer : List ℕ) (n t : ℕ) (e : ResetAnswers (world_of m b p marks s image registers) buffer n t) where
  abbrev host : Record
  host = record_of (header_of m b p marks) s image

  abbrev chip : Chip
  chip = chip_of m b p registers

  abbrev writes : List Burst
  writes = (resetting host).writes

  answer : send_answer host (resetting host) (length buffer) ≡ listed n t
  answer = sym (answer_of host (resetting host) (length buffer)) ∙ ap list_of e

  sizes : Answered host (resetting host) (length buffer) n t
  sizes = answered host (resetting host) refl (length buffer) n t answer

  -- it was accepted of a sound record
  sound : Sound host
  sound = sound_is host sizes.sound

  abbrev next : World
  next = reset_world (world_of m b p marks s image registers) buffer

  list : list_in n t (step_of (world_of m b p marks s image registers) Reset buffer).lent ≡ encode b p writes
  list =
      ap (list_in n t) (list_is host (resetting host) buffer n t answer)
      ∙ ap₂ (λ (x y : ℕ). list_in x y (over (encode b p writes) buffer)) sizes.n_is sizes.t_is
      ∙ front b p writes buffer

  -- the chip heard its list, and has reset values, whatever it had
  chip_after_lem : next.chip ≡ chip_of m b p (reset_image m)
  unfolding new_chip
  chip_after_lem =
      ap (λ (x : ListAnswer). fed_by x (step_of (world_of m b p marks s image registers) Reset buffer).lent chip) (ap list_of e)
      ∙ ap (λ (l : List ℕ). (feed_of chip l).chip) list
      ∙ ap (λ (f : Fed). f.chip) (feed_reset chip (Rattle.chip.specs.ChipLaws.sound_is chip chip_sound))

  -- and so has the record's image, and nothing is locked
  host_after : next.host ≡ record_of (header_of m b p free) s (reset_image m)
  host_after = host_is host (resetting host) (length buffer) n t answer

  holds_again : Holds m b p s next
  holds_again = record {
    marks = free;
    image = reset_image m;
    registers = reset_image m;
    is = ap₂ (λ (r : Record) (c : Chip). record { host = r; chip = c }) host_after chip_after_lem;
    settings_fit = sound.settings;
    image_fit = reset_image_lem m sound.settings.member;
    marks_fit = free_marks (header_of m b p free) s (reset_image m) refl;
    registers_fit = reset_registers m sound.settings.member;
    same = λ a l k. refl;
  }

-- Whatever registers a sound chip of the record's member, bus and pins holds, and whatever image the record has of it, once the list of an
-- accepted Reset was heard the invariant of histories holds again, with the settings that the record had.
pub reset_recovers : (m b p marks : ℕ) (s image registers : List ℕ) → Rattle.chip.specs.Chip.sound_of (chip_of m b p registers) ≡ true →
    (buffer : List ℕ) (n t : ℕ) → ResetAnswers (world_of m b p marks s image registers) buffer n t →
    Holds m b p s (reset_world (world_of m b p marks s image registers) buffer)
reset_recovers = holds_again

-- ---- after a history

module _ (m b p : ℕ) (o : accepted (open_of m b p).answer ≡ true) (events : List Event) (registers : List ℕ) where
  abbrev asked : List ℕ
  asked = ledger_after m b p events

  holds : Holds m b p asked (world_after m b p events)
  holds = history_holds m b p (opened m b p o) events

  failed_is : failed m b p events registers ≡ world_of m b p holds.marks asked holds.image registers
  failed_is = ap (λ (w : World). record { host = w.host; chip = chip_of m b p registers }) holds.is

  pub failed_recovers : Rattle.chip.specs.Chip.sound_of (chip_of m b p registers) ≡ true → (buffer : List ℕ) (n t : ℕ) →
      ResetAnswers (failed m b p events registers) buffer n t → Holds m b p asked (reset_world (failed m b p events registers) buffer)
  failed_recovers e buffer n t =
      subst (λ (w : World). ResetAnswers w buffer n t → Holds m b p asked (reset_world w buffer)) (sym failed_is)
      (reset_recovers m b p holds.marks asked holds.image registers e buffer n t)

  -- nine bytes of buffer are always enough: its list is one write of one byte
  pub reset_accepted : (buffer : List ℕ) → 9 ≤ length buffer → ResetAnswers (failed m b p events registers) buffer 1 3
  reset_accepted buffer room =
      let r : Record = (world_after m b p events).host in
      let so : sound_of r ≡ true = ap (λ (w : World). sound_of w.host) holds.is ∙ is_so m b p (opened m b p o) asked (world_after m b p events) holds in
      ap answers.TheVariants.List
      (answer_of r (resetting r) (length buffer) ∙ sym (send_listed r (resetting r) buffer so room).answer_is)

-- Demand 3 behind the Reset
pub recovered_lists : RecoveredLists
recovered_lists m b p o events registers e buffer n t r =
    holds_owes m b p (opened m b p o) (ledger_after m b p events) (reset_world (failed m b p events registers) buffer)
    (failed_recovers m b p o events registers e buffer n t r)

-- ---- what `failed` and the ledger of `RecoveredLists` stand for

-- a chip that heard a part of a list, or any other transactions, whole or cut short, is one of those that are meant
pub part_heard : (m b p : ℕ) (registers : List ℕ) → Rattle.chip.specs.Chip.sound_of (chip_of m b p registers) ≡ true → (heard : List (List ℕ)) →
    Rattle.chip.specs.Chip.sound_of (chip_of m b p (apply_all m b p registers heard)) ≡ true
part_heard m b p registers e heard =
    let before = Rattle.chip.specs.ChipLaws.sound_is (chip_of m b p registers) e in
    is_sound (chip_of m b p (apply_all m b p registers heard))
    (record { opened = before.opened; registers = all_registers m b p registers heard before.registers })

-- The events may also stand behind the failure: the record after them is the one that `failed` has (`record_alone` of WorldLaws). And the
-- ledger goes on as if nothing had failed: it is that of all calls, before and behind the Reset.
pub recovered_ledger : (m b p : ℕ) (events : List Event) (registers buffer : List ℕ) (behind : List Event) →
    entries m (ledger_after m b p events) (told (reset_world (failed m b p events registers) buffer) behind)
    ≡ ledger_after m b p (events ++ (call (record { request = Reset; lent = buffer }) ∷ behind))
recovered_ledger m b p events registers buffer behind =
    let reset : Call = record { request = Reset; lent = buffer } in
    let w : World = failed m b p events registers in
    ap (λ (l : List ℕ). entries m l (told (reset_world w buffer) behind)) (sym (enters_nothing m (ledger_after m b p events) (tell w reset) refl))
    ∙ ap (entries m (ledger_after m b p events)) (told_alone (call reset ∷ behind) (world_after m b p events) (chip_of m b p registers))
    ∙ sym (ledger_append m (reset_image m) (start m b p) events (call reset ∷ behind))
