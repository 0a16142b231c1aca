-- What a program rests on where the bus failed: a list was sent only in part, so that the chip holds registers that the record does not
-- believe. Whatever registers a sound chip of the record's member, bus and pins holds, and whatever the record believes of it, once the
-- list of an accepted Reset was heard all of demand 3 is owed from there. m, b and p are the member, bus and pins that Open was given.
-- Assumes nothing.
use Rattle.std.specs.Prelude.{◌≡◌, true, List, ℕ}
use Rattle.map.specs.Refusals.{accepted}
use Rattle.calls.specs.declared.Request.TheVariants.{Reset}
use Rattle.host.specs.Record.{open_of}
use Rattle.update.specs.Update.{listed}
use Rattle.chip.specs.Chip.{chip_of, sound_of}
use Rattle.history.specs.declared.World.{World}
use Rattle.history.specs.declared.CallAnswer as answers
use Rattle.history.specs.Step.{step_of}
use Rattle.demand.specs.Events.{Event, world_after, ledger_after}
use Rattle.demand.specs.Demand.{Demand3}

-- ---- The failure

-- The record that these events left, beside a chip of the same member, bus and pins that holds these registers, whatever it heard of
-- their lists.
abbrev pub failed : ℕ → ℕ → ℕ → List Event → List ℕ → World
failed m b p events registers = record { host = (world_after m b p events).host; chip = chip_of m b p registers }

-- ---- The Reset

-- A Reset on the world w, with this buffer, is accepted and answers n and t;
abbrev pub ResetAnswers : World → List ℕ → ℕ → ℕ → Type 0
ResetAnswers w buffer n t = (step_of w Reset buffer).answer ≡ answers.TheVariants.List (listed n t)

-- and this is the world once the chip heard its list.
abbrev pub reset_world : World → List ℕ → World
reset_world w buffer = (step_of w Reset buffer).world

-- ---- The claim

-- For all events behind that Reset demand 3 is owed, with the settings of all calls before it: after every Open that is accepted, every
-- list of events, and all registers that a sound chip can hold.
abbrev pub RecoveredLists : Type 0
RecoveredLists =
    (m b p : ℕ) → accepted (open_of m b p).answer ≡ true → (events : List Event) (registers : List ℕ) → sound_of (chip_of m b p registers) ≡ true →
    (buffer : List ℕ) (n t : ℕ) → ResetAnswers (failed m b p events registers) buffer n t → (behind : List Event) →
    Demand3 m b p (ledger_after m b p events) (reset_world (failed m b p events registers) buffer) behind
