-- `capi::rounding::records` meets its contract.
-- Assumes nothing.
use Rattle.capi.proofs.FourRecords.{records_read}
use Rattle.capi.proofs.rounding.records.Goals as goal

pub returns : goal.returns
returns c = records_read c.args.bytes.now _ _ _ _ c.record_at.ensures c.record_at-2.ensures c.record_at-3.ensures c.record_at-4.ensures
