-- The places before this one have their parts, and the rest is left.
-- Assumes nothing.
use Rattle.rounds.specs.Round.{present_at}
use Rattle.rounds.specs.Dealing.{records_of}
use Rattle.rounds.proofs.Shares.{Dealing}
use Rattle.rounds.proofs.dealing.deal.Given as goal

abbrev pub invariant-loop-place : goal.invariant-loop-place
invariant-loop-place l = Dealing (present_at l.present) (records_of l.records) l.limit l.place l.left l.writes l.bytes
