-- `writes::scan::first_differing` meets its contract.
-- Assumes nothing.
use Rattle.writes.specs.Found.{SameTo}
use Rattle.writes.proofs.scan.first_differing.Given as goal

-- all before a are the same
abbrev pub invariant-loop-a : goal.invariant-loop-a
invariant-loop-a l = SameTo l.settings l.image l.from l.a
