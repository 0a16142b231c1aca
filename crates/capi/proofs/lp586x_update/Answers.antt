-- `capi::lp586x_update` meets its contract.
-- Assumes nothing.
use mathlib.Core.Path.{refl}
use Rattle.capi.specs.Capi.{image_at, list_answer, list_bytes, buffer_after, value_after}
use Rattle.capi.specs.CapiLaws.{record_unsized}
use Rattle.update.specs.Update.{updating}
use Rattle.capi.proofs.Listed.{update_within, answer_is, buffer_is, sent_so, update_back, stored_by, stored_fits}
use borrow.Rule.Slice.PartMut.{same_len_mid}
use Rattle.capi.proofs.lp586x_update.Goals as goal

pub returns-then-bytes-ne-RECORD_SIZE : goal.returns-then-bytes-ne-RECORD_SIZE
unfolding list_answer list_bytes buffer_after value_after
returns-then-bytes-ne-RECORD_SIZE c = rw (record_unsized c.args.bytes.now c.if-bytes-ne-RECORD_SIZE.true) (record { value = c.wrong_size.ensures; bytes_after = refl; buffer_after = refl; n_after = refl; t_after = refl; stored_after = refl; needed_after = refl })

pub put_update-requires : goal.put_update-requires
put_update-requires c =
    let told = sent_so c.args.bytes.now c.if-bytes-ne-RECORD_SIZE.false _ c.record-r.ensures _ _ _ c.update_parts-answer.ensures.value c.update_parts-answer.ensures.buffer_after in (
      update_within _ _ _ c.update_parts-answer.ensures.value,
      stored_fits c.args.bytes.now c.if-bytes-ne-RECORD_SIZE.false _ c.record-r.ensures _ _ _ c.update_parts-answer.ensures.value c.update_parts-answer.ensures.buffer_after _
          (c.store_sent-sent.ensures.stored _ _ told),
    )

pub shape_of-bytes : goal.shape_of-bytes
shape_of-bytes c = same_len_mid image_at 908 c.args.bytes.now c.store_sent-sent.new.image c.store_sent-sent.auto.image

pub shape_of-buffer : goal.shape_of-buffer
shape_of-buffer c = c.update_parts-answer.auto.buffer

pub returns : goal.returns
returns c =
    let size = c.if-bytes-ne-RECORD_SIZE.false in
    let read = c.record-r.ensures in
    let ea = c.update_parts-answer.ensures.value in
    let eb = c.update_parts-answer.ensures.buffer_after in
    let told = sent_so c.args.bytes.now size _ read _ _ _ ea eb in
    rw (answer_is updating c.args.bytes.now size _ read _ _ ea) (record {
      value = c.put_update.ensures.value;
      bytes_after = update_back c.args.bytes.now size _ read _ _ _ ea eb _ (c.store_sent-sent.ensures.image_after _ _ told);
      buffer_after = buffer_is updating c.args.bytes.now size _ read _ _ ea _ eb;
      n_after = c.put_update.ensures.n_after;
      t_after = c.put_update.ensures.t_after;
      stored_after = stored_by c.args.bytes.now size _ read _ _ _ ea eb _ (c.store_sent-sent.ensures.stored _ _ told) _ _ c.put_update.ensures.stored_after;
      needed_after = c.put_update.ensures.needed_after;
    })
