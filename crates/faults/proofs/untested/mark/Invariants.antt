-- `faults::untested::mark` meets its contract.
-- Assumes nothing.
use Rattle.faults.proofs.Steps.{MarkedTo}
use Rattle.faults.proofs.untested.mark.Given as goal

abbrev pub invariant-loop-dot : goal.invariant-loop-dot
invariant-loop-dot l = MarkedTo l.image l.initial.res l.res l.dot
