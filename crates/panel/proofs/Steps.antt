-- A call by its request: what the functions of include/lp586x.h leave is the step, one lemma for each call.
-- Assumes nothing.
use mathlib.Core.Path.{◌≡◌, refl, sym, ◌∙◌}
use mathlib.Core.List.{List}
use Prim.Native.Nat.{ℕ, ◌+◌, ◌*◌, ◌≤◌}
use borrow.Author.Tests.{eq-eqb, ne_eqb}
use lib.ListN.{length}
use lib.Seq.{length-take-le}
use Rattle.history.specs.Step.{list_in}
use Rattle.capi.specs.Capi.{Outcome, ListOutcome}
use Rattle.capi.specs.Calls.{setting_call, power_lost_call, lock_call, update_call, update_stores, update_needed, reset_call, chip_power_lost_call, chip_feed_call}
use Rattle.capi.specs.CallLaws.{send_inside}
use Rattle.update.specs.Update.{updating, resetting}
use Rattle.calls.specs.declared.Request.{Request}
use Rattle.calls.specs.declared.Request.TheVariants.{Set, Reset, PowerLost, Update, Lock}
use Rattle.calls.specs.declared.Setting.{Setting}
use Rattle.panel.specs.PanelStep.{Panel, panel_of, stepped, chip_fed, panel_step}

-- ---- feeding

pub unfed : (answer n t : ℕ) (buffer chip : List ℕ) → (answer ≡ 0 → ⊥) → chip ≡ chip_fed answer n t buffer chip
unfolding chip_fed
unfed answer n t buffer chip z = rw (ne_eqb answer 0 z) refl

pub fed : (answer n t : ℕ) (buffer chip new : List ℕ) → answer ≡ 0 → new ≡ (chip_feed_call chip (list_in n t buffer)).bytes → new ≡ chip_fed answer n t buffer chip
unfolding chip_fed
fed answer n t buffer chip new z e = rw (eq-eqb answer 0 z) e

pub list_length : (n t : ℕ) (buffer : List ℕ) → 4 + 2 * n + t ≤ length buffer → 4 + 2 * n + t ≡ length (list_in n t buffer)
list_length n t buffer h = sym (length-take-le (4 + 2 * n + t) buffer h)

-- ---- what a function promises

abbrev pub Leaves : Outcome → ℕ → List ℕ → Type 0
Leaves x answer bytes = (answer ≡ x.answer) × (bytes ≡ x.bytes)

abbrev pub LeavesList : ListOutcome → ℕ → List ℕ → List ℕ → ℕ → ℕ → Type 0
LeavesList x answer bytes buffer n t = (answer ≡ x.answer) × ((bytes ≡ x.bytes) × ((buffer ≡ x.buffer) × ((n ≡ x.n) × (t ≡ x.t))))

-- lp586x_update also leaves what it stored, and the length needed
abbrev pub LeavesUpdate : List ℕ → List ℕ → ℕ → ℕ → ℕ → ℕ → ℕ → List ℕ → List ℕ → ℕ → ℕ → ℕ → ℕ → Type 0
LeavesUpdate host lent n t stored needed answer bytes buffer k u count size =
    (answer ≡ (update_call host lent n t).answer)
    × ((bytes ≡ (update_call host lent n t).bytes)
    × ((buffer ≡ (update_call host lent n t).buffer)
    × ((k ≡ (update_call host lent n t).n)
    × ((u ≡ (update_call host lent n t).t) × ((count ≡ update_stores host lent stored) × (size ≡ update_needed host lent needed))))))

-- ---- room: the list of an answer of 0 stands in the buffer, whose length a call keeps

module _ (host lent bytes buffer : List ℕ) (n t answer k u size : ℕ) (kept : size ≡ length lent) where
  pub reset_room : LeavesList (reset_call host lent n t) answer bytes buffer k u → answer ≡ 0 → 4 + 2 * k + u ≤ size
  reset_room h z = rw (kept, h.1.1.1.0, h.1.1.1.1) (send_inside resetting host lent n t refl (sym h.0 ∙ z))

  pub update_room : (stored needed count new : ℕ) → LeavesUpdate host lent n t stored needed answer bytes buffer k u count new → answer ≡ 0 → 4 + 2 * k + u ≤ size
  update_room stored needed count new h z = rw (kept, h.1.1.1.0, h.1.1.1.1.0) (send_inside updating host lent n t refl (sym h.0 ∙ z))

-- ---- steps

module _ (w : Panel) (request : Request) (lent : List ℕ) (n t stored needed : ℕ) where
  -- what is left is the step of the request
  abbrev pub Steps : ℕ → List ℕ → List ℕ → List ℕ → ℕ → ℕ → ℕ → ℕ → Type 0
  Steps answer host chip buffer k u count size = stepped answer (panel_of host chip) buffer k u count size ≡ panel_step w request lent n t stored needed

  pub setting_step : (q : Setting) (answer : ℕ) (bytes : List ℕ) → request ≡ Set q → Leaves (setting_call w.host q lent) answer bytes →
      Steps answer bytes w.chip lent n t stored needed
  setting_step q answer bytes e h = rw (e, h.0, h.1) refl

  pub power_lost_step : (answer : ℕ) (bytes chip : List ℕ) → request ≡ PowerLost → Leaves (power_lost_call w.host) answer bytes →
      chip ≡ (chip_power_lost_call w.chip).bytes → Steps answer bytes chip lent n t stored needed
  power_lost_step answer bytes chip e h k = rw (e, h.0, h.1, k) refl

  pub lock_step : (answer : ℕ) (bytes : List ℕ) → request ≡ Lock → Leaves (lock_call w.host) answer bytes → Steps answer bytes w.chip lent n t stored needed
  lock_step answer bytes e h = rw (e, h.0, h.1) refl

  pub reset_step : (answer k u : ℕ) (bytes chip buffer : List ℕ) → request ≡ Reset → LeavesList (reset_call w.host lent n t) answer bytes buffer k u →
      chip ≡ chip_fed answer k u buffer w.chip → Steps answer bytes chip buffer k u stored needed
  reset_step answer k u bytes chip buffer e h f = rw (e, f, h.0, h.1.0, h.1.1.0, h.1.1.1.0, h.1.1.1.1) refl

  pub update_step_lem : (answer k u count size : ℕ) (bytes chip buffer : List ℕ) → request ≡ Update →
      LeavesUpdate w.host lent n t stored needed answer bytes buffer k u count size → chip ≡ chip_fed answer k u buffer w.chip →
      Steps answer bytes chip buffer k u count size
  update_step_lem answer k u count size bytes chip buffer e h f =
      rw (e, f, h.0, h.1.0, h.1.1.0, h.1.1.1.0, h.1.1.1.1.0, h.1.1.1.1.1.0, h.1.1.1.1.1.1) refl
