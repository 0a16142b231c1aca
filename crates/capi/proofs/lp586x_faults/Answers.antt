-- `capi::lp586x_faults` meets its contract.
-- Assumes nothing.
use mathlib.Core.Path.{refl}
use Rattle.faults.specs.Faults.{answer_numbers}
use Rattle.capi.specs.Capi.{buffer_after, faults_answer_by}
use Rattle.capi.specs.CapiLaws.{record_unsized}
use Rattle.capi.proofs.InPlace.{faults_done}
use Rattle.capi.proofs.lp586x_faults.Goals as goal

pub returns-then-bytes-ne-RECORD_SIZE : goal.returns-then-bytes-ne-RECORD_SIZE
unfolding faults_answer_by buffer_after answer_numbers
returns-then-bytes-ne-RECORD_SIZE c =
    rw (record_unsized c.args.bytes.now c.if-bytes-ne-RECORD_SIZE.true) (record { value = c.wrong_size.ensures; result_after = refl; opens_after = refl; shorts_after = refl })

pub shape_of-res : goal.shape_of-res
shape_of-res c = c.faults_parts-answer.auto.res

pub returns : goal.returns
returns c =
    let done = faults_done c.args.bytes.now c.if-bytes-ne-RECORD_SIZE.false _ c.record.ensures c.args.given.now c.args.res.now _ _ c.faults_parts-answer.ensures.value c.faults_parts-answer.ensures.result_after in
    rw done.0 (record { value = c.agree.ensures.value; result_after = done.1; opens_after = c.agree.ensures.opens_after; shorts_after = c.agree.ensures.shorts_after })
