-- `chip::data::hear` meets its contract.
-- Assumes nothing.
use Prim.Native.Nat.{◌+◌, ◌<◌}
use Rattle.chip.proofs.Steps.{Heard}
use Rattle.chip.proofs.data.hear.Given as goal

abbrev pub invariant-loop-i : goal.invariant-loop-i
invariant-loop-i l = Heard l.member.code l.on l.start l.bytes l.initial.registers l.registers l.i × (l.start + l.i < 1024)
