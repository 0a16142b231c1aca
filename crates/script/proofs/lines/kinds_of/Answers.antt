-- `script::lines::kinds_of` meets its contract.
-- Assumes nothing.
use Rattle.std.proofs.Common.{arith}
use Rattle.script.proofs.Judging.{no_form, kinds_at}
use Rattle.script.proofs.lines.kinds_of.Goals as goal

pub returns-in-Some : goal.returns-in-Some
returns-in-Some c = kinds_at c.args.lines.now c.args.row c.in-Some.form.now (c.in-Some.ensures.lookup.4 (omega arith) no_form)

pub returns-in-None : goal.returns-in-None
returns-in-None c = kinds_at c.args.lines.now c.args.row no_form (c.in-None.ensures.lookup.4 (omega arith) no_form)
