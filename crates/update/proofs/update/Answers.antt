-- `update::update` meets its contract.
-- Assumes nothing.
use Rattle.std.proofs.Common.{ap, ◌∙◌, length}
use Rattle.host.specs.declared.Record.{Record}
use Rattle.update.specs.Update.{update_answer, update_buffer}
use Rattle.update.proofs.ImageTaken.{updated_is}
use Rattle.update.proofs.update.Goals as goal

pub returns-clause-value : goal.returns-clause-value
returns-clause-value c =
    updated_is c.args.r c.args.buffer.now _ _ (c.update_parts-answer.ensures.value ∙ ap (λ (x : Record). update_answer x (length c.args.buffer.now)) c.lent.ensures)
    (c.update_parts-answer.ensures.buffer_after ∙ ap (λ (x : Record). update_buffer x c.args.buffer.now) c.lent.ensures)
    _ _ c.store_sent-stored.ensures.stored c.store_sent-stored.ensures.image_after
