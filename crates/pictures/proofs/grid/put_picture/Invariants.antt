-- `pictures::grid::put_picture` meets its contract: the lines before this one are put, whatever `char_of` draws.
-- Assumes nothing.
use Rattle.std.proofs.Common.{ℕ}
use Rattle.pictures.specs.Pictures.{Draws}
use Rattle.pictures.proofs.Steps.{Rows}
use Rattle.pictures.proofs.grid.put_picture.Given as goal

abbrev pub invariant-loop-line : goal.invariant-loop-line
invariant-loop-line g l = (char : ℕ → ℕ → ℕ) → Draws (goal.F-post g l.char_of) char → Rows char l.initial.text l.initial.next l.lines l.text l.next l.line
