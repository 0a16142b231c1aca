-- So many writes are counted, and the portion goes on behind them.
-- Assumes nothing.
use Rattle.host.specs.Record.{record_behind}
use Rattle.rounds.proofs.Portions.{Counting}
use Rattle.rounds.proofs.parts.part_size.Given as goal

abbrev pub invariant-loop-part : goal.invariant-loop-part
invariant-loop-part l = Counting (record_behind l.r) l.room l.from l.left l.writes

abbrev pub decreases-loop-part : goal.decreases-loop-part
decreases-loop-part l = l.left
