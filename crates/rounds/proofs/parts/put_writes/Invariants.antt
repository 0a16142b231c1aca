-- So many writes are put and taken, and the portion goes on behind them.
-- Assumes nothing.
use Rattle.host.specs.Record.{record_behind}
use Rattle.rounds.proofs.Putting.{Putting}
use Rattle.rounds.proofs.parts.put_writes.Given as goal

abbrev pub invariant-loop-part : goal.invariant-loop-part
invariant-loop-part l = Putting (record_behind l.r) l.fn.buffer l.fn.image l.index l.at l.room l.next l.from l.left l.buffer l.image

abbrev pub decreases-loop-part : goal.decreases-loop-part
decreases-loop-part l = l.left
