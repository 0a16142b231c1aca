-- The loop of `replay::play_block`: the line so far stays in its buffer, and behind what waits there is room for the longest line.
-- Assumes nothing.
use Rattle.std.proofs.Common.{◌+◌, ◌-◌, ◌≤◌, length}
use Rattle.player.specs.Play.{longest_line}
use Rattle.replay.proofs.play_block.Given as goal

abbrev pub invariant-loop-from : goal.invariant-loop-from
invariant-loop-from g l = (l.reading.length ≤ length l.line) × (l.reading.at + longest_line ≤ length l.text)

abbrev pub decreases-loop-from : goal.decreases-loop-from
decreases-loop-from g l = length l.block - l.from
