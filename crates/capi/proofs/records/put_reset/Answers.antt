-- `capi::records::put_reset` meets its contract.
-- Assumes nothing.
use Rattle.capi.proofs.InPlace.{reset_stored}
use Rattle.capi.proofs.records.put_reset.Goals as goal

pub returns : goal.returns
returns c = reset_stored c.args.bytes.now c.requires _ c.header-header.ensures _ _ c.put_reset.ensures c.put_marks.ensures
