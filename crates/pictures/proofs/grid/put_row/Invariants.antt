-- `pictures::grid::put_row` meets its contract: the characters of the sinks before this one are put, whatever `char_of` draws.
-- Assumes nothing.
use Rattle.std.proofs.Common.{ℕ}
use Rattle.pictures.specs.Pictures.{Draws}
use Rattle.pictures.proofs.Steps.{Row}
use Rattle.pictures.proofs.grid.put_row.Given as goal

abbrev pub invariant-loop-sink : goal.invariant-loop-sink
invariant-loop-sink g l = (char : ℕ → ℕ → ℕ) → Draws (goal.F-post g l.char_of) char → Row char l.line l.initial.text l.at l.text l.next l.sink
