-- `capi::records::record` meets its contract.
-- Assumes nothing.
use mathlib.Core.Path.{ap}
use Rattle.host.specs.declared.Header.{Header}
use Rattle.host.specs.Record.{record_of}
use Rattle.capi.specs.Capi.{settings_in, image_in, record_in}
use Rattle.capi.proofs.records.record.Goals as goal

pub returns : goal.returns
unfolding record_in
returns c = ap (λ (x : Header). record_of x (settings_in c.args.bytes.now) (image_in c.args.bytes.now)) c.header.ensures
