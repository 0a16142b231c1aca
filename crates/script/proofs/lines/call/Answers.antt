-- `script::lines::call` meets its contract.
-- Assumes nothing.
use Rattle.std.proofs.Common.{refl, arith}
use Rattle.script.specs.Lines.{lines, line_at, call_at}
use Rattle.script.proofs.Judging.{call_behind}
use Rattle.script.proofs.lines.call.Goals as goal

pub returns-in-2 : goal.returns-in-2
unfolding call_at line_at lines
returns-in-2 c = rw c.in-2.is refl

pub returns-in_default : goal.returns-in_default
returns-in_default c = call_behind _ 4 _ _ _ _ (omega arith) c.other.ensures
