-- `capi::lp586x_clear` meets its contract.
-- Assumes nothing.
use mathlib.Core.Path.{refl}
use native.Mathlib.Omega.{arith}
use Rattle.capi.specs.CapiLaws.{record_unsized}
use Rattle.capi.specs.Capi.{list_answer, buffer_after, value_after}
use Rattle.update.specs.Update.{clearing}
use Rattle.capi.proofs.Listed.{command_within, answer_is, buffer_is}
use Rattle.capi.proofs.lp586x_clear.Goals as goal

pub returns-then-bytes-ne-RECORD_SIZE : goal.returns-then-bytes-ne-RECORD_SIZE
unfolding list_answer buffer_after value_after
returns-then-bytes-ne-RECORD_SIZE c = rw (record_unsized c.args.bytes.now c.if-bytes-ne-RECORD_SIZE.true) (record { value = c.wrong_size.ensures; buffer_after = refl; n_after = refl; t_after = refl })

pub count-requires : goal.count-requires
count-requires c = command_within _ _ _ _ _ (omega arith) _ c.clear_parts-answer.ensures.value

pub returns : goal.returns
returns c =
    rw (answer_is clearing c.args.bytes.now c.if-bytes-ne-RECORD_SIZE.false _ c.record.ensures c.args.buffer.now _ c.clear_parts-answer.ensures.value) (record { value = c.count.ensures.value; buffer_after = buffer_is clearing c.args.bytes.now c.if-bytes-ne-RECORD_SIZE.false _ c.record.ensures c.args.buffer.now _ c.clear_parts-answer.ensures.value _ c.clear_parts-answer.ensures.buffer_after; n_after = c.count.ensures.n_after; t_after = c.count.ensures.t_after })
