-- The parts of the places before this one are put, and taken.
-- Assumes nothing.
use Rattle.rounds.specs.Round.{present_at}
use Rattle.rounds.specs.Dealing.{records_of}
use Rattle.rounds.proofs.Joining.{Putting}
use Rattle.rounds.proofs.writing.put_round.Given as goal

abbrev pub invariant-loop-place : goal.invariant-loop-place
invariant-loop-place l =
    Putting l.limit (present_at l.present) (records_of l.records) l.dealt l.fn.buffer l.fn.images l.place l.next l.at l.buffer l.images
