-- `writes::scan::same_block` meets its contract.
-- Assumes nothing.
use mathlib.Core.Path.{◌≡◌}
use Prim.Native.Nat.{◌+◌}
use Rattle.writes.specs.Found.{SameTo}
use Rattle.writes.proofs.scan.same_block.Given as goal

-- where no bit is gathered, i bytes are the same
abbrev pub invariant-loop-i : goal.invariant-loop-i
invariant-loop-i l = l.bits ≡ 0 → SameTo l.settings l.image l.from (l.from + l.i)
