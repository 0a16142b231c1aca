-- `writes::scan::write_end` meets its contract.
-- Assumes nothing.
use mathlib.Core.Path.{◌≡◌}
use Prim.Native.Nat.{◌-◌, ◌≤◌, ◌<◌}
use lib.ListN.{get_or}
use Rattle.plan.specs.NextLaws.{Extends}
use Rattle.host.specs.Record.{record_of}
use Rattle.writes.specs.Marks.{marks_of, Whole}
use Rattle.writes.proofs.scan.write_end.Given as goal

-- the write has come to `end`, where the images are the same or the table ends
abbrev pub invariant-loop-next : goal.invariant-loop-next
invariant-loop-next l =
    (l.from ≤ l.end) × (l.end ≤ 908) × (l.end < 908 → get_or l.settings l.end 0 ≡ get_or l.image l.end 0) ×
    (Whole (record_of l.member.header l.settings l.image) → Extends (marks_of (record_of l.member.header l.settings l.image)) l.from l.end)

abbrev pub decreases-loop-next : goal.decreases-loop-next
decreases-loop-next l = 908 - l.end
