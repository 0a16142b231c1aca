-- `faults::readings::read_all` meets its contract.
-- Assumes nothing.
use Prim.Native.Nat.{◌*◌}
use Rattle.faults.specs.Passes.{ReadTo}
use Rattle.faults.proofs.readings.read_all.Given as goal

abbrev pub invariant-loop-line : goal.invariant-loop-line
invariant-loop-line l = ReadTo l.member l.bytes l.initial.res l.res l.found.opens l.found.shorts (18 * l.line)
