-- The invariant of `writes::writer::store`: the bytes before place i are stored, and counted.
-- Assumes nothing.
use mathlib.Core.Path.{◌≡◌}
use Rattle.writes.proofs.Bytes.{Copied}
use Rattle.writes.proofs.writer.store.Given as goal

abbrev pub invariant-loop-i : goal.invariant-loop-i
invariant-loop-i l = (l.stored ≡ l.i) × Copied l.fn.to l.from l.at l.start l.i l.to
