-- `writes::scan::same_block` meets its contract.
-- Assumes nothing.
use Rattle.writes.proofs.Bytes.{block_none, block_more}
use Rattle.writes.proofs.scan.same_block.Goals as goal

pub loop-i-init : goal.loop-i-init
loop-i-init c e = block_none _ _ _

pub loop-i-preserved : goal.loop-i-preserved
loop-i-preserved c = block_more _ _ _ c.loop-i.i _ c.loop-i.invariant
