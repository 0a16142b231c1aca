-- `writes::writer::put_header` meets its contract.
-- Assumes nothing.
use Rattle.writes.proofs.Bytes.{header_put}
use Rattle.writes.proofs.writer.put_header.Goals as goal

pub returns : goal.returns
returns c = header_put _ _ _ _ _ c.put_size.ensures c.put_size-2.ensures
