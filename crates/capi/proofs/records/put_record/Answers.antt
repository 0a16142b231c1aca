-- `capi::records::put_record` meets its contract.
-- Assumes nothing.
use mathlib.Core.Path.{refl}
use Rattle.capi.proofs.InPlace.{record_put}
use Rattle.capi.proofs.records.put_record.Goals as goal

pub returns : goal.returns
returns c =
    record_put c.args.member c.args.bus c.args.pins c.args.bytes.now _ refl _ _ _ c.requires.0 c.put_header.ensures c.put_reset.ensures
    c.put_reset-2.ensures
