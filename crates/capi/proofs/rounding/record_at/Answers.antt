-- `capi::rounding::record_at` meets its contract.
-- Assumes nothing.
use mathlib.Core.Path.{◌∙◌}
use Rattle.capi.proofs.FourRecords.{record_read}
use Rattle.capi.proofs.rounding.record_at.Goals as goal

pub returns : goal.returns
returns c = c.record.ensures ∙ record_read c.args.bytes.now c.args.place c.requires.0 c.requires.1
