-- `writes::scan::count_writes` meets its contract.
-- Assumes nothing.
use mathlib.Core.Path.{refl}
use Rattle.writes.proofs.Counting.{counting_start, counting_more, counting_done}
use Rattle.writes.proofs.scan.count_writes.Goals as goal

pub loop-write-init : goal.loop-write-init
loop-write-init c = counting_start _ _ refl

pub loop-write-preserved : goal.loop-write-preserved
loop-write-preserved c = counting_more _ _ _ _ _ c.loop-write.invariant _ _ c.in-Some.ensures.placed c.in-Some.ensures.next_write

pub returns-clause-counted : goal.returns-clause-counted
returns-clause-counted c = counting_done _ _ _ _ _ c.loop-write.invariant c.in_default.ensures.next_write
