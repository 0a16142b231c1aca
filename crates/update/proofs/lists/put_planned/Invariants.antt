-- `update::lists::put_planned` meets its contract.
-- Assumes nothing.
use mathlib.Core.Path.{◌≡◌}
use Prim.Native.Nat.{ℕ, ◌+◌, ◌*◌}
use Rattle.host.specs.Record.{record_behind}
use Rattle.update.proofs.Loops.{Written}
use Rattle.update.proofs.lists.put_planned.Given as goal

-- k of the plan's writes are put, and the next one is looked for from `from` on
abbrev pub invariant-loop-i : goal.invariant-loop-i
invariant-loop-i l = (k : ℕ) × (l.i ≡ l.fn.size.first + k) × Written (record_behind l.r) l.initial.buffer (4 + 2 * l.fn.size.first) (4 + 2 * l.fn.size.n + 3 * l.fn.size.first) k l.from l.at l.buffer
