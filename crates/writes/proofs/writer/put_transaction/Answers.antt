-- `writes::writer::put_transaction` meets its contract.
-- Assumes nothing.
use lib.ListN.{length-set}
use Rattle.writes.proofs.Bytes.{put_none, put_head, put_all, transaction_size}
use Rattle.writes.proofs.writer.put_transaction.Goals as goal

pub returns-then-buffer-at : goal.returns-then-buffer-at
returns-then-buffer-at c = put_none c.args.buffer.now c.args.settings.now c.args.at c.args.header.bus c.args.header.pins c.args.start c.args.len c.if-buffer-at.true

pub returns-then-buffer-next : goal.returns-then-buffer-next
returns-then-buffer-next c = put_head c.args.buffer.now c.args.settings.now c.args.at c.args.header.bus c.args.header.pins c.args.start c.args.len _ c.head_first.ensures (simp length-set at c.if-buffer-next.true)

pub shape_of-buffer : goal.shape_of-buffer
shape_of-buffer c = transaction_size c.args.buffer.now _ c.args.settings.now c.args.at c.args.start c.args.len _ _ c.copy.ensures

pub returns : goal.returns
returns c =
    put_all c.args.buffer.now c.args.settings.now c.args.at c.args.header.bus c.args.header.pins c.args.start c.args.len _ _ _
    c.head_first.ensures c.head_second.ensures c.copy.ensures
