-- `pictures::differences::put_registers` meets its contract: the first register and those before this address are put.
-- Assumes nothing.
use Rattle.pictures.proofs.Steps.{Listed}
use Rattle.pictures.proofs.differences.put_registers.Given as goal

abbrev pub invariant-loop-address : goal.invariant-loop-address
invariant-loop-address l = Listed l.member l.held l.asked l.first l.initial.text l.initial.next l.text l.next l.address
