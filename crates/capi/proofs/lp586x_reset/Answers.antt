-- `capi::lp586x_reset` meets its contract.
-- Assumes nothing.
use mathlib.Core.Path.{refl, sym, ◌∙◌}
use native.Mathlib.Omega.{arith}
use Rattle.capi.specs.CapiLaws.{record_unsized}
use Rattle.capi.specs.Capi.{list_answer, list_bytes, buffer_after, value_after}
use Rattle.update.specs.Update.{resetting}
use Rattle.capi.proofs.Listed.{command_within, answer_is, buffer_is, stored_host, kept_bytes}
use Rattle.capi.proofs.lp586x_reset.Goals as goal
use Rattle.capi.proofs.lp586x_reset.Goals.{then-is_ok, else-is_ok}

pub returns-then-bytes-ne-RECORD_SIZE : goal.returns-then-bytes-ne-RECORD_SIZE
unfolding list_answer list_bytes buffer_after value_after
returns-then-bytes-ne-RECORD_SIZE c = rw (record_unsized c.args.bytes.now c.if-bytes-ne-RECORD_SIZE.true) (record { value = c.wrong_size.ensures; bytes_after = refl; buffer_after = refl; n_after = refl; t_after = refl })

pub count-requires : goal.count-requires
count-requires c = command_within _ _ _ _ _ (omega arith) _ c.reset_parts-answer.ensures.value

pub returns : goal.returns
returns c =
    let size = c.if-bytes-ne-RECORD_SIZE.false in
    let read = c.record.ensures in
    let ea = c.reset_parts-answer.ensures.value in
    rw (answer_is resetting c.args.bytes.now size _ read c.args.buffer.now _ ea) (record {
      value = c.count.ensures.value;
      bytes_after =
          elim c.if-is_ok.branch [
            | then-is_ok w ↦ w.bytes-is ∙ stored_host resetting c.args.bytes.now size _ read c.args.buffer.now _ ea _ (sym c.is_ok.ensures.value ∙ w.if-is_ok.true) w.put_reset.ensures
            | else-is_ok w ↦ w.bytes-is ∙ kept_bytes resetting c.args.bytes.now size _ read c.args.buffer.now _ ea (sym c.is_ok.ensures.value ∙ w.if-is_ok.false)
          ];
      buffer_after = buffer_is resetting c.args.bytes.now size _ read c.args.buffer.now _ ea _ c.reset_parts-answer.ensures.buffer_after;
      n_after = c.count.ensures.n_after;
      t_after = c.count.ensures.t_after;
    })
