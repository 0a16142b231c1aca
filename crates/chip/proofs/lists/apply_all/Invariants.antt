-- `chip::lists::apply_all` meets its contract.
-- Assumes nothing.
use Rattle.chip.proofs.Steps.{Applied}
use Rattle.chip.proofs.lists.apply_all.Given as goal

abbrev pub invariant-loop-i : goal.invariant-loop-i
invariant-loop-i l = Applied l.member.code l.bus l.pins l.list l.n l.initial.registers l.registers l.at l.i
