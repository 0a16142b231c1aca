-- The loop of `replay::output::written` ends: less is left after each write.
-- Assumes nothing.
use Rattle.std.proofs.Common.{length}
use Rattle.replay.proofs.output.written.Given as goal

abbrev pub decreases-loop-rest : goal.decreases-loop-rest
decreases-loop-rest g l = length l.rest
