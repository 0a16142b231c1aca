-- `host::lock` meets its contract.
-- Assumes nothing.
use Rattle.std.proofs.Common.{ap, ◌∙◌}
use Rattle.host.specs.Record.{lock_answer}
use Rattle.host.proofs.Steps.{lock_is}
use Rattle.host.proofs.lock.Goals as goal

pub returns : goal.returns
returns c = lock_is c.args.r _ _ _ (c.lock_answer-answer.ensures ∙ ap lock_answer c.lent.ensures) c.answer_numbers.ensures c.marked-r.ensures
