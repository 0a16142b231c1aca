-- `capi::rounding::round` meets its contract.
-- Assumes nothing.
use mathlib.Core.Path.{sym, ◌∙◌}
use Rattle.capi.proofs.FourRecords.{round_put, round_kept, round_answered, round_sent}
use Rattle.capi.proofs.rounding.round.Goals as goal

pub returns-then-is_ok : goal.returns-then-is_ok
returns-then-is_ok c =
    let x = c.round_images-answer.ensures in record {
      value = round_answered c.args.bytes.now c.requires _ _ _ _ _ _ _ _ _ _ c.image.ensures c.image-2.ensures c.image-3.ensures c.image-4.ensures _ c.records.ensures x.value x.buffer_after x.images_after;
      bytes_after =
          round_put c.args.bytes.now c.requires _ _ _ _ _ _ _ _ _ _ c.image.ensures c.image-2.ensures c.image-3.ensures c.image-4.ensures _ c.records.ensures x.value x.buffer_after x.images_after
          (sym c.is_ok.ensures.value ∙ c.if-is_ok.true) _ c.put_back.ensures;
      buffer_after = round_sent c.args.bytes.now c.requires _ _ _ _ _ _ _ _ _ _ c.image.ensures c.image-2.ensures c.image-3.ensures c.image-4.ensures _ c.records.ensures x.value x.buffer_after x.images_after;
    }

pub returns-else-is_ok : goal.returns-else-is_ok
returns-else-is_ok c =
    let x = c.round_images-answer.ensures in record {
      value = round_answered c.args.bytes.now c.requires _ _ _ _ _ _ _ _ _ _ c.image.ensures c.image-2.ensures c.image-3.ensures c.image-4.ensures _ c.records.ensures x.value x.buffer_after x.images_after;
      bytes_after =
          round_kept c.args.bytes.now c.requires _ _ _ _ _ _ _ _ _ _ c.image.ensures c.image-2.ensures c.image-3.ensures c.image-4.ensures _ c.records.ensures x.value x.buffer_after x.images_after
          (sym c.is_ok.ensures.value ∙ c.if-is_ok.false);
      buffer_after = round_sent c.args.bytes.now c.requires _ _ _ _ _ _ _ _ _ _ c.image.ensures c.image-2.ensures c.image-3.ensures c.image-4.ensures _ c.records.ensures x.value x.buffer_after x.images_after;
    }
