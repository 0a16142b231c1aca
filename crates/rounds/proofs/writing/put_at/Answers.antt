-- Nothing is sent where nobody is present.
-- Assumes nothing.
use Rattle.host.specs.Record.{record_behind}
use Rattle.rounds.proofs.Joining.{absent_put}
use Rattle.rounds.proofs.writing.put_at.Goals as goal

pub returns-else-present-clause-value : goal.returns-else-present-clause-value
returns-else-present-clause-value c =
    (absent_put c.args.present (record_behind c.args.r) c.args.index c.args.at c.args.bytes c.args.buffer.now c.args.image.now c.if-present.false).value

pub returns-else-present-clause-buffer_after : goal.returns-else-present-clause-buffer_after
returns-else-present-clause-buffer_after c =
    (absent_put c.args.present (record_behind c.args.r) c.args.index c.args.at c.args.bytes c.args.buffer.now c.args.image.now c.if-present.false).buffer_after

pub returns-else-present-clause-image_after : goal.returns-else-present-clause-image_after
returns-else-present-clause-image_after c =
    (absent_put c.args.present (record_behind c.args.r) c.args.index c.args.at c.args.bytes c.args.buffer.now c.args.image.now c.if-present.false).image_after
