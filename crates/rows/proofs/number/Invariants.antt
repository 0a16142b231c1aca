-- The invariant of `rows::number`: the value has three digits at most.
-- Assumes nothing.
use Rattle.std.proofs.Common.{◌≤◌}
use Rattle.rows.proofs.number.Given as goal

abbrev pub invariant-loop-byte : goal.invariant-loop-byte
invariant-loop-byte l = l.value ≤ 4095
