-- `writes::storing::store_list` meets its contract.
-- Assumes nothing.
use Rattle.writes.proofs.ListStored.{Storing}
use Rattle.writes.proofs.storing.store_list.Given as goal

abbrev pub invariant-loop-i : goal.invariant-loop-i
invariant-loop-i l = Storing l.bus l.initial.image l.list l.n l.image l.stored l.from l.i
