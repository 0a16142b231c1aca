-- The places that were passed have the bus bytes of their portions.
-- Assumes nothing.
use Rattle.std.proofs.Common.{◌≡◌, ℕ, ◌<◌, length, get_or}
use Rattle.rounds.specs.Round.{present_at}
use Rattle.rounds.specs.Dealing.{records_of, first_bytes}
use Rattle.rounds.proofs.dealing.first_sizes.Given as goal

abbrev pub invariant-loop-place : goal.invariant-loop-place
invariant-loop-place l =
    (length l.firsts ≡ 4)
    × ((k : ℕ) → k < l.place → get_or l.firsts k 0 ≡ get_or (first_bytes l.share (present_at l.present) (records_of l.records)) k 0)
