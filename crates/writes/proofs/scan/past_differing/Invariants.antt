-- `writes::scan::past_differing` meets its contract.
-- Assumes nothing.
use Rattle.writes.proofs.Bytes.{Differing}
use Rattle.writes.proofs.scan.past_differing.Given as goal

-- all before a differ
abbrev pub invariant-loop-a : goal.invariant-loop-a
invariant-loop-a l = Differing l.settings l.image l.from l.a
