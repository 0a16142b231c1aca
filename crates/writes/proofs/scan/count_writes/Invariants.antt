-- `writes::scan::count_writes` meets its contract.
-- Assumes nothing.
use Prim.Native.Nat.{◌-◌}
use Rattle.host.specs.Record.{record_behind}
use Rattle.writes.specs.Marks.{marks_of, Whole}
use Rattle.writes.proofs.Counting.{Counting}
use Rattle.writes.proofs.scan.count_writes.Given as goal

-- the writes before `from` are counted, where the images are whole
abbrev pub invariant-loop-write : goal.invariant-loop-write
invariant-loop-write l = Counting (Whole (record_behind l.r)) (marks_of (record_behind l.r)) l.count.writes l.count.bytes l.from

abbrev pub decreases-loop-write : goal.decreases-loop-write
decreases-loop-write l = 908 - l.from
