-- The loop of `replay::play_all`: the line so far stays in its buffer, and behind what waits there is room for the longest line.
-- Assumes nothing.
use Rattle.std.proofs.Common.{◌+◌, ◌≤◌, length}
use Rattle.player.specs.Play.{longest_line}
use Rattle.replay.proofs.play_all.Given as goal

abbrev pub invariant-loop : goal.invariant-loop
invariant-loop g l = (l.reading.length ≤ length l.line) × (l.reading.at + longest_line ≤ length l.text)
