-- What a C program rests on where the bus failed: a list was sent only in part, so that the chip holds registers that the record does not
-- believe. Once the list of an lp586x_reset that answered 0 was heard all of demand 3 is owed from there. It follows specs/Recovery.antt of
-- the crate history name by name.
-- Assumes nothing.
use Rattle.std.specs.Prelude.{◌≡◌, true, List, ℕ}
use Rattle.calls.specs.declared.Request.TheVariants.{Reset}
use Rattle.chip.specs.Chip.{chip_of, sound_of}
use Rattle.capi.specs.Capi.{chip_bytes}
use Rattle.panel.specs.PanelStep.{Panel, panel_of, panel_step}
use Rattle.panel_demand.specs.PanelHistory.{PanelCall, PanelOpened, panel_after, panel_ledger, PanelDemand3}

-- ---- The failure

-- The record's bytes that these calls left, beside those of a chip of the same member, bus and pins that holds these registers, whatever
-- it heard of their lists.
abbrev pub panel_failed : ℕ → ℕ → ℕ → Panel → List PanelCall → List ℕ → Panel
panel_failed m b p memory calls registers = panel_of (panel_after m b p memory calls).host (chip_bytes (chip_of m b p registers))

-- ---- The Reset

-- A Reset on the panel w, with this buffer, answers 0;
abbrev pub PanelResetAnswers : Panel → List ℕ → ℕ → ℕ → ℕ → ℕ → Type 0
PanelResetAnswers w buffer n t stored needed = (panel_step w Reset buffer n t stored needed).answer ≡ 0

-- and this is the panel once the chip heard its list.
abbrev pub panel_reset : Panel → List ℕ → ℕ → ℕ → ℕ → ℕ → Panel
panel_reset w buffer n t stored needed = (panel_step w Reset buffer n t stored needed).panel

-- ---- The claim

-- For all calls behind that Reset demand 3 is owed, with the settings of all calls before it: after every lp586x_open and
-- lp586x_chip_at_reset that answer 0, every list of calls, and all registers that a sound chip can hold.
abbrev pub PanelRecoveredLists : Type 0
PanelRecoveredLists =
    (m b p : ℕ) (memory : Panel) → PanelOpened m b p memory → (calls : List PanelCall) (registers : List ℕ) → sound_of (chip_of m b p registers) ≡ true →
    (buffer : List ℕ) (n t stored needed : ℕ) → PanelResetAnswers (panel_failed m b p memory calls registers) buffer n t stored needed → (behind : List PanelCall) →
    PanelDemand3 m b p (panel_ledger m b p memory calls) (panel_reset (panel_failed m b p memory calls registers) buffer n t stored needed) behind
