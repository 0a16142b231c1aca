-- `capi::records::put_chip` meets its contract.
-- Assumes nothing.
use Rattle.capi.proofs.InPlace.{chip_put}
use Rattle.capi.proofs.records.put_chip.Goals as goal

pub returns : goal.returns
returns c = chip_put _ _ _ c.args.bytes.now _ c.put_front.ensures _ c.requires.0 c.put_reset.ensures
