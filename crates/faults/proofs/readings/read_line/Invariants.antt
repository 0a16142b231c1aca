-- `faults::readings::read_line` meets its contract.
-- Assumes nothing.
use Rattle.faults.proofs.Steps.{LineTo}
use Rattle.faults.proofs.readings.read_line.Given as goal

abbrev pub invariant-loop-sink : goal.invariant-loop-sink
invariant-loop-sink l = LineTo l.member l.line l.bytes l.initial.res l.initial.found.opens l.initial.found.shorts l.res l.found.opens l.found.shorts l.sink
