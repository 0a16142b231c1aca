-- Each place that was passed is absent, or its record is sound.
-- Assumes nothing.
use Rattle.std.proofs.Common.{◌≡◌, ℕ, ◌<◌, true}
use Rattle.rounds.specs.Round.{present_at, present_sound}
use Rattle.rounds.specs.Dealing.{records_of}
use Rattle.rounds.proofs.refusals.all_sound.Given as goal

abbrev pub invariant-loop-place : goal.invariant-loop-place
invariant-loop-place l = (k : ℕ) → k < l.place → present_sound (present_at l.present) (records_of l.records) k ≡ true
