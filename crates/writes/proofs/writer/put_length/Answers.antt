-- `writes::writer::put_length` meets its contract.
-- Assumes nothing.
use Rattle.writes.proofs.Bytes.{length_past}
use Rattle.writes.proofs.writer.put_length.Goals as goal

pub returns-then-buffer-index : goal.returns-then-buffer-index
returns-then-buffer-index c = length_past _ _ _ c.if-buffer-index.true
