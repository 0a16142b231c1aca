-- `burst::places::bytes_before` meets its contract.
-- Assumes nothing.
use native.Mathlib.Omega.{arith}
use Rattle.burst.specs.BurstLaws.{size_read}
use Rattle.burst.proofs.Steps.{summed_none, summed_more, summed_all}
use Rattle.burst.proofs.places.bytes_before.Goals as goal

pub loop-i-init : goal.loop-i-init
loop-i-init c = summed_none _ _ c.requires

pub overflow_add-bytes : goal.overflow_add-bytes
overflow_add-bytes c = omega (arith, size_read _ _ _ c.size_at-bytes.ensures)

pub loop-i-preserved : goal.loop-i-preserved
loop-i-preserved c = summed_more _ _ _ _ c.size_at-bytes.result c.loop-i-test.true c.size_at-bytes.ensures c.loop-i.invariant

pub returns : goal.returns
returns c = summed_all _ _ _ _ c.loop-i-test.false c.loop-i.invariant
