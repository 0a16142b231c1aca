-- A bus failure is mended for a C program by an lp586x_reset that answers 0: `panel_recovered_lists`, from `failed_recovers` of the
-- crate history.
-- Assumes nothing.
use Rattle.std.specs.Prelude.{◌≡◌, true, List, map, ℕ, ◌≤◌, length}
use Rattle.std.proofs.Common.{sym, ◌∙◌, subst}
use Rattle.std.proofs.Math.Path.{ap}
use Rattle.map.specs.Refusals.{numbers_of}
use Rattle.calls.specs.declared.Request.TheVariants.{Reset}
use Rattle.update.specs.Update.{ListAnswer, chip_reset_of, list_number}
use Rattle.chip.specs.Chip.{chip_of, sound_of}
use Rattle.chip.specs.ChipLaws.{sound_is}
use Rattle.history.specs.declared.World.{World}
use Rattle.history.specs.declared.CallAnswer as answers
use Rattle.demand.specs.Events.{Event, ledger_after}
use Rattle.demand.proofs.WorldLaws.{Holds}
use Rattle.demand.proofs.Theorem.{list_of}
use Rattle.demand.specs.Recovery.{failed, ResetAnswers, reset_world}
use Rattle.demand.proofs.RecoveryLaws.{failed_recovers, reset_accepted}
use Rattle.capi.specs.Capi.{chip_bytes, n_after, t_after}
use Rattle.capi.specs.CapiLaws.{zero_stores}
use Rattle.panel.specs.PanelStep.{Panel, panel_of, panel_step}
use Rattle.panel_demand.specs.PanelHistory.{PanelCall, PanelOpened, panel_ledger, event_of, PanelDemand3}
use Rattle.panel_demand.specs.PanelLaws.{bytes_of, Whole, step_bytes, step_answers}
use Rattle.panel_demand.proofs.PanelTheorem.{opened, takes, after_bytes, ledger_after_lem, whole_after, panel_owes}
use Rattle.panel_demand.specs.PanelRecovery.{panel_failed, PanelResetAnswers, panel_reset, PanelRecoveredLists}

module _ (m b p : ℕ) (memory : Panel) (o : PanelOpened m b p memory) (calls : List PanelCall) (registers : List ℕ)
    (sound : sound_of (chip_of m b p registers) ≡ true) (buffer : List ℕ) (n t stored needed : ℕ) where
  abbrev same_calls : List Event
  same_calls = map event_of calls

  -- the failure by value
  abbrev world : World
  world = failed m b p same_calls registers

  abbrev panel : Panel
  panel = panel_failed m b p memory calls registers

  failed_bytes : panel ≡ bytes_of world
  failed_bytes = ap (λ (w : Panel). panel_of w.host (chip_bytes (chip_of m b p registers))) (after_bytes m b p memory o calls)

  sizes : Whole world
  sizes = record {
    settings = (whole_after m b p memory o calls).settings;
    image = (whole_after m b p memory o calls).image;
    registers = (sound_is (chip_of m b p registers) sound).registers.size;
  }

  -- the Reset by value
  abbrev answer : ListAnswer
  answer = (chip_reset_of world.host (length buffer)).answer

  answer_is : (panel_step panel Reset buffer n t stored needed).answer ≡ list_number answer
  unfolding numbers_of
  answer_is =
      ap (λ (w : Panel). (panel_step w Reset buffer n t stored needed).answer) failed_bytes ∙ step_answers world sizes buffer n t stored needed Reset

  reset_bytes : panel_reset panel buffer n t stored needed ≡ bytes_of (reset_world world buffer)
  reset_bytes = ap (λ (w : Panel). panel_reset w buffer n t stored needed) failed_bytes ∙ step_bytes world sizes buffer n t stored needed Reset

  -- nine bytes of buffer are always enough
  pub panel_reset_accepted : 9 ≤ length buffer → PanelResetAnswers panel buffer n t stored needed
  panel_reset_accepted room =
      let by_value : ResetAnswers world buffer 1 3 = reset_accepted m b p (opened m b p memory o) same_calls registers buffer room in
      answer_is ∙ ap (λ (x : answers.CallAnswer). list_number (list_of x)) by_value

  module _ (e : PanelResetAnswers panel buffer n t stored needed) where
    answers_so : ResetAnswers world buffer (n_after answer n) (t_after answer t)
    answers_so = ap answers.TheVariants.List (zero_stores answer n t (sym answer_is ∙ e))

    holds : Holds m b p (ledger_after m b p same_calls) (reset_world world buffer)
    holds = failed_recovers m b p (opened m b p memory o) same_calls registers sound buffer (n_after answer n) (t_after answer t) answers_so

    recovered : (behind : List PanelCall) → PanelDemand3 m b p (panel_ledger m b p memory calls) (panel_reset panel buffer n t stored needed) behind
    recovered behind =
        subst (λ (s : List ℕ). PanelDemand3 m b p s (panel_reset panel buffer n t stored needed) behind) (sym (ledger_after_lem m b p memory o calls))
        (subst (λ (w : Panel). PanelDemand3 m b p (ledger_after m b p same_calls) w behind) (sym reset_bytes)
        (panel_owes m b p (takes m b p memory o) (ledger_after m b p same_calls) (reset_world world buffer) holds behind))

-- Demand 3 behind the Reset, for a C program
pub panel_recovered_lists : PanelRecoveredLists
panel_recovered_lists = recovered
