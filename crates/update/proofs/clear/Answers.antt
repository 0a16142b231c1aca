-- `update::clear` meets its contract.
-- Assumes nothing.
use Rattle.std.proofs.Common.{ap, ◌∙◌, length}
use Rattle.host.specs.declared.Record.{Record}
use Rattle.update.specs.Update.{clear_answer}
use Rattle.update.proofs.Fixed.{clear_is}
use Rattle.update.proofs.clear.Goals as goal

pub returns-clause-value : goal.returns-clause-value
returns-clause-value c = clear_is _ _ _ (c.clear_parts.ensures.value ∙ ap (λ (x : Record). clear_answer x (length c.args.buffer.now)) c.lent.ensures)
