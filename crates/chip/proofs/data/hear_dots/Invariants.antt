-- `chip::data::hear_dots` meets its contract.
-- Assumes nothing.
use mathlib.Core.Bool.{true}
use Rattle.chip.proofs.Steps.{Heard}
use Rattle.chip.proofs.data.hear_dots.Given as goal

abbrev pub invariant-loop-i : goal.invariant-loop-i
invariant-loop-i l = Heard l.member.code true l.first l.bytes l.initial.registers l.registers l.i
