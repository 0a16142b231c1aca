-- `faults::readings::read_all` meets its contract.
-- Assumes nothing.
use native.Mathlib.Omega.{arith}
use Rattle.faults.proofs.Steps.{read_none, next_line_lem, read_whole}
use Rattle.faults.proofs.readings.read_all.Goals as goal

pub loop-line-init : goal.loop-line-init
loop-line-init c = read_none _ _ _

pub loop-line-preserved : goal.loop-line-preserved
loop-line-preserved c = next_line_lem _ _ _ _ _ _ _ (c.read_line-found.ensures _ c.loop-line.invariant)

pub returns : goal.returns
returns c = let p = read_whole _ _ _ _ c.loop-line.found.opens c.loop-line.found.shorts c.loop-line.line (omega arith) c.loop-line.invariant in record { result_after = p.0; opens_value = p.1 }
