-- The places that were passed have their copies.
-- Assumes nothing.
use Rattle.std.proofs.Common.{◌≡◌, ℕ, ◌<◌, length}
use Rattle.rounds.specs.Round.{record_at}
use Rattle.rounds.specs.Dealing.{image_at}
use Rattle.rounds.proofs.images.Given as goal

abbrev pub invariant-loop-place : goal.invariant-loop-place
invariant-loop-place l = (length l.images ≡ 4) × ((k : ℕ) → k < l.place → image_at l.images k ≡ (record_at l.fn.records k).image)
