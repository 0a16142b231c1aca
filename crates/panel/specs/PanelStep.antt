-- One call of include/lp586x.h on what a C program keeps, by the promises of its functions (capi, specs/Calls.antt): document 01,
-- "The ledger and whole lists". A panel is the bytes of a host's record, `host`, and those of its chip; `lent` is the bytes of a scene, or
-- the buffer of a call that writes a list; n, t, stored and needed are what stands where a call stores them. To be read beside
-- specs/Step.antt of the crate history.
-- Assumes nothing.
use Rattle.std.specs.Prelude.{cond, List, ℕ, eqb}
use Rattle.history.specs.Step.{list_in}
use Rattle.capi.specs.Capi.{Outcome, ListOutcome}
use Rattle.calls.specs.declared.Request.{Request}
use Rattle.calls.specs.declared.Request.TheVariants.{Set, Reset, PowerLost, Update, Lock}
use Rattle.capi.specs.Calls.{setting_call, power_lost_call, lock_call, update_call, update_stores, update_needed, reset_call, chip_power_lost_call, chip_feed_call}

-- ---- What a C program keeps

-- the bytes of a record and those of its chip
pub record Panel : Type 0 where
  pub host : List ℕ
  pub chip : List ℕ

abbrev pub panel_of : List ℕ → List ℕ → Panel
panel_of host chip = record { host = host; chip = chip }

-- what a call answers, and all that it leaves
pub record PanelStepped : Type 0 where
  pub answer : ℕ
  pub panel : Panel
  pub lent : List ℕ
  pub n : ℕ
  pub t : ℕ
  pub stored : ℕ
  pub needed : ℕ

abbrev pub stepped : ℕ → Panel → List ℕ → ℕ → ℕ → ℕ → ℕ → PanelStepped
stepped answer panel lent n t stored needed = record { answer = answer; panel = panel; lent = lent; n = n; t = t; stored = stored; needed = needed }

-- ---- What the chip gets

-- "The list of an accepted Update or Reset is fed to the chip as soon as it is answered;" accepted: the call answered 0. Its list is
-- the first 4 + 2n + t bytes of the buffer, with the n and t that it stored.
unfoldable pub chip_fed : ℕ → ℕ → ℕ → List ℕ → List ℕ → List ℕ
chip_fed answer n t buffer chip = cond (eqb answer 0) (chip_feed_call chip (list_in n t buffer)).bytes chip

-- ---- A step

-- a call that answers a number alone, and the chip after it; it stores nothing else
abbrev pub panel_setting : Outcome → List ℕ → List ℕ → ℕ → ℕ → ℕ → ℕ → PanelStepped
panel_setting x chip lent n t stored needed = stepped x.answer (panel_of x.bytes chip) lent n t stored needed

-- a call that writes a list, the chip before it, and what else stands there after it
abbrev pub panel_list : ListOutcome → List ℕ → ℕ → ℕ → PanelStepped
panel_list x chip stored needed =
    stepped x.answer (panel_of x.bytes (chip_fed x.answer x.n x.t x.buffer chip)) x.buffer x.n x.t stored needed

-- A setting is one of five functions, each of which promises this definition of its Setting. "at Power lost the chip loses power."
abbrev pub panel_step : Panel → Request → List ℕ → ℕ → ℕ → ℕ → ℕ → PanelStepped
panel_step w (Set q) lent n t stored needed = panel_setting (setting_call w.host q lent) w.chip lent n t stored needed
panel_step w Reset lent n t stored needed = panel_list (reset_call w.host lent n t) w.chip stored needed
panel_step w PowerLost lent n t stored needed = panel_setting (power_lost_call w.host) (chip_power_lost_call w.chip).bytes lent n t stored needed
panel_step w Update lent n t stored needed =
    panel_list (update_call w.host lent n t) w.chip (update_stores w.host lent stored) (update_needed w.host lent needed)
panel_step w Lock lent n t stored needed = panel_setting (lock_call w.host) w.chip lent n t stored needed
