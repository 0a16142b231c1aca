-- `writes::scan::past_same` meets its contract.
-- Assumes nothing.
use Prim.Native.Nat.{◌-◌}
use Rattle.writes.specs.Found.{SameTo}
use Rattle.writes.proofs.scan.past_same.Given as goal

-- all up to here are the same
abbrev pub invariant-loop-a : goal.invariant-loop-a
invariant-loop-a l = SameTo l.settings l.image l.from l.a

abbrev pub decreases-loop-a : goal.decreases-loop-a
decreases-loop-a l = 908 - l.a
