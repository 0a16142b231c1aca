-- `faults::readings::read_line` meets its contract.
-- Assumes nothing.
use native.Mathlib.Omega.{arith}
use Rattle.faults.proofs.Steps.{line_none, line_more, line_whole}
use Rattle.faults.proofs.readings.read_line.Goals as goal

pub loop-sink-init : goal.loop-sink-init
loop-sink-init c = line_none _ _ _ _ _ _ c.requires.3 c.requires.4

pub fault_bit-opened-requires : goal.fault_bit-opened-requires
fault_bit-opened-requires c = (omega arith, omega arith)

pub fault_bit-shorted-requires : goal.fault_bit-shorted-requires
fault_bit-shorted-requires c = (omega arith, omega arith)

pub reading-requires : goal.reading-requires
reading-requires c = (omega (arith, c.fault_bit-opened.ensures.1), omega (arith, c.fault_bit-shorted.ensures.1))

pub loop-sink-preserved : goal.loop-sink-preserved
loop-sink-preserved c =
    line_more _ _ _ _ _ _ _ _ _ _ _ _ _ _ _ _ (omega arith) (omega arith) c.lines-lines.ensures.0 c.columns-columns.ensures
    c.dot_in-exists.ensures c.fault_bit-opened.ensures c.fault_bit-shorted.ensures c.reading.ensures c.loop-sink.invariant

pub returns : goal.returns
returns c = line_whole _ _ _ _ _ _ _ _ _ c.loop-sink.sink (omega arith) c.loop-sink.invariant
