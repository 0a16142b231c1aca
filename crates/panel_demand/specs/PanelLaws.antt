-- One call on the bytes of a world leaves the bytes of the world after that call, one lemma for each call, and so does any list of
-- calls. It also answers the number of that call, and leaves the lent bytes as that call does.
-- Assumes nothing.
use Rattle.std.specs.Prelude.{get_or, ◌≡◌, Bool, true, List, [], ◌∷◌, map, ℕ, length}
use Rattle.std.proofs.Math.Path.{refl, sym, ap}
use Rattle.std.proofs.Common.{ap₂, ◌∙◌, ne_eqb}
use Rattle.std.proofs.Math.Bool.{false≢true}
use Rattle.std.proofs.Math.Dec.{eqb}
use Rattle.map.specs.declared.refusals.Refusal.TheVariants.{Locked}
use Rattle.map.specs.Refusals.{refusal_number, numbers_of, opens}
use Rattle.calls.specs.declared.Request.{Request}
use Rattle.calls.specs.declared.Request.TheVariants.{Set, Reset, PowerLost, Update, Lock}
use Rattle.host.specs.declared.Record.{Record}
use Rattle.host.specs.Record.{setting_numbers, changed_to, setting_of, power_lost_of, lock_of}
use Rattle.std.specs.Prelude.{Ok, Err}
use Rattle.update.specs.declared.NotListed.TheVariants.{Short, Refused}
use Rattle.update.specs.Update.{ListAnswer, list_number, Sending, send_of, send_buffer, updating, update_of, resetting}
use Rattle.update.proofs.StoredLaws.{update_number}
use Rattle.chip.specs.Chip.{feed_of}
use Rattle.history.specs.declared.World.{World}
use Rattle.history.specs.Ledger.{Told, told_of, entries}
use Rattle.history.specs.Step.{call_numbers, answers_locked, list_in, fed_by, send_step, step_of}
use Rattle.demand.specs.Events.{run, told}
use Rattle.demand.proofs.WorldLaws.{Holds, event_holds}
use Rattle.capi.specs.Capi.{record_bytes, chip_bytes, value_after, n_after, t_after, Outcome, ListOutcome}
use Rattle.capi.specs.Calls.{send_call, update_stores, update_needed, chip_feed_call}
use Rattle.capi.specs.CapiLaws.{zero_listed}
use Rattle.capi.specs.CallLaws.{list_outcome_of, setting_of_call, power_lost_call_lem, lock_call_lem, send_call_lem, feed_call, chip_power_lost_call_lem}
use Rattle.panel.specs.PanelStep.{Panel, panel_of, chip_fed, panel_list, panel_step}
use Rattle.panel_demand.specs.PanelHistory.{PanelCall, panel_run, panel_tell, panel_told, event_of}

-- the bytes of a world
abbrev pub bytes_of : World → Panel
bytes_of w = panel_of (record_bytes w.host) (chip_bytes w.chip)

-- ---- one call

-- all images of a world are whole
pub record Whole (w : World) : Type 0 where
  pub settings : length w.host.settings ≡ 908
  pub image : length w.host.image ≡ 908
  pub registers : length w.chip.registers ≡ 908

module _ (w : World) (whole : Whole w) (lent : List ℕ) (n t stored needed : ℕ) where
  abbrev r : Record
  r = w.host

  abbrev chip : List ℕ
  chip = chip_bytes w.chip

  fed_bytes : (list : List ℕ) → (chip_feed_call chip list).bytes ≡ chip_bytes (feed_of w.chip list).chip
  fed_bytes list = ap (λ (x : Outcome). x.bytes) (feed_call w.chip whole.registers list)

  -- the list goes to the chip where the call answered 0
  list_fed : (answer : ListAnswer) (buffer : List ℕ) →
      chip_fed (list_number answer) (n_after answer n) (t_after answer t) buffer chip ≡ chip_bytes (fed_by answer buffer w.chip)
  unfolding value_after chip_fed
  list_fed (Ok l) buffer = fed_bytes (list_in l.n l.t buffer)
  list_fed (Err (Short size)) buffer = refl
  list_fed (Err (Refused x)) buffer = rw (ne_eqb (list_number (Err (Refused x))) 0 (λ e. false≢true (zero_listed (Err (Refused x)) e))) refl

  -- what a call that sends leaves of the bytes of a record
  sent : (f : Record → Sending) → send_call f (record_bytes r) lent n t ≡ list_outcome_of (send_of r (f r) (length lent)) (send_buffer r (f r) lent) n t
  sent f = send_call_lem r whole.settings whole.image f lent n t

  send_bytes : (f : Record → Sending) (k j : ℕ) → (panel_list (send_call f (record_bytes r) lent n t) chip k j).panel ≡ bytes_of (send_step w (f r) lent).world
  send_bytes f k j =
      ap (λ (z : ListOutcome). panel_of z.bytes (chip_fed z.answer z.n z.t z.buffer chip)) (sent f)
      ∙ ap (λ (z : List ℕ). panel_of (record_bytes (send_of r (f r) (length lent)).host) z) (list_fed (send_of r (f r) (length lent)).answer (send_buffer r (f r) lent))

  -- the panel that a call on the bytes of the world leaves is that of the world after the call
  pub step_bytes : (request : Request) → (panel_step (bytes_of w) request lent n t stored needed).panel ≡ bytes_of (step_of w request lent).world
  step_bytes (Set q) = ap (λ (z : Outcome). panel_of z.bytes chip) (setting_of_call r whole.settings whole.image q lent)
  step_bytes Reset = send_bytes resetting stored needed
  step_bytes PowerLost =
      ap₂ (λ (x y : Outcome). panel_of x.bytes y.bytes) (power_lost_call_lem r whole.settings whole.image)
      (chip_power_lost_call_lem w.chip whole.registers)
  step_bytes Update = send_bytes updating (update_stores (record_bytes r) lent stored) (update_needed (record_bytes r) lent needed)
  step_bytes Lock = ap (λ (z : Outcome). panel_of z.bytes chip) (lock_call_lem r whole.settings whole.image)

  -- it answers the number of the call by value
  pub step_answers : (request : Request) →
      (panel_step (bytes_of w) request lent n t stored needed).answer ≡ get_or (call_numbers (step_of w request lent).answer).values 0 0
  unfolding setting_of changed_to setting_numbers power_lost_of lock_of numbers_of
  step_answers (Set q) = ap (λ (x : Outcome). x.answer) (setting_of_call r whole.settings whole.image q lent)
  step_answers Reset = ap (λ (x : ListOutcome). x.answer) (sent resetting)
  step_answers PowerLost = ap (λ (x : Outcome). x.answer) (power_lost_call_lem r whole.settings whole.image)
  step_answers Update =
      ap (λ (x : ListOutcome). x.answer) (sent updating)
      ∙ sym (update_number (update_of r (length lent)).answer (update_of r (length lent)).stored)
  step_answers Lock = ap (λ (x : Outcome). x.answer) (lock_call_lem r whole.settings whole.image)

  -- and leaves the lent bytes as that call does
  pub step_lent : (request : Request) → (panel_step (bytes_of w) request lent n t stored needed).lent ≡ (step_of w request lent).lent
  step_lent (Set q) = refl
  step_lent Reset = ap (λ (x : ListOutcome). x.buffer) (sent resetting)
  step_lent PowerLost = refl
  step_lent Update = ap (λ (x : ListOutcome). x.buffer) (sent updating)
  step_lent Lock = refl

  -- so the ledger is told the same of it
  step_told : (request : Request) →
      eqb (panel_step (bytes_of w) request lent n t stored needed).answer (refusal_number Locked) ≡ answers_locked (step_of w request lent).answer
  unfolding answers_locked
  step_told request = ap (λ (k : ℕ). eqb k (refusal_number Locked)) (step_answers request)

-- ---- any list of calls

module _ (m b p : ℕ) (o : opens m b p ≡ true) where
  -- what holds after every call keeps the images whole
  pub whole : (s : List ℕ) (w : World) → Holds m b p s w → Whole w
  whole s w h = record {
    settings = ap (λ (x : World). length x.host.settings) h.is ∙ h.settings_fit.size;
    image = ap (λ (x : World). length x.host.image) h.is ∙ h.image_fit.size;
    registers = ap (λ (x : World). length x.chip.registers) h.is ∙ h.registers_fit.size;
  }

  pub run_bytes : (calls : List PanelCall) (s : List ℕ) (w : World) → Holds m b p s w → panel_run (bytes_of w) calls ≡ bytes_of (run w (map event_of calls))
  run_bytes [] s w h = refl
  run_bytes (c ∷ cs) s w h =
      ap (λ (x : Panel). panel_run x cs) (step_bytes w (whole s w h) c.lent c.n c.t c.stored c.needed c.request)
      ∙ run_bytes cs (entries m s (told w (event_of c ∷ []))) (step_of w c.request c.lent).world (event_holds m b p o s w h (event_of c))

  -- the ledger is told the same of both
  pub run_told : (calls : List PanelCall) (s : List ℕ) (w : World) → Holds m b p s w → panel_told (bytes_of w) calls ≡ told w (map event_of calls)
  run_told [] s w h = refl
  run_told (c ∷ cs) s w h =
      ap (λ (x : Panel). panel_tell (bytes_of w) c ∷ panel_told x cs) (step_bytes w (whole s w h) c.lent c.n c.t c.stored c.needed c.request)
      ∙ ap₂ (λ (x : Bool) (l : List Told). told_of c.request c.lent x ∷ l)
      (step_told w (whole s w h) c.lent c.n c.t c.stored c.needed c.request)
      (run_told cs (entries m s (told w (event_of c ∷ []))) (step_of w c.request c.lent).world (event_holds m b p o s w h (event_of c)))
