-- `capi::set_numbers` meets its contract.
-- Assumes nothing.
use Rattle.capi.proofs.InPlace.{wrong_size_set, told, setting_done}
use Rattle.capi.proofs.set_numbers.Goals as goal

pub returns-then-bytes-ne-RECORD_SIZE : goal.returns-then-bytes-ne-RECORD_SIZE
returns-then-bytes-ne-RECORD_SIZE c =
    let p = wrong_size_set _ _ _ _ c.if-bytes-ne-RECORD_SIZE.true c.wrong_size.ensures c.number_alone.ensures in
    record { value = p.0; bytes_after = p.1 }

pub returns : goal.returns
returns c =
    let t = told c.args.bytes.now c.if-bytes-ne-RECORD_SIZE.false _ c.record-r.ensures _ _ _ c.setting_answer-answer.ensures in
    let p = setting_done c.args.bytes.now c.if-bytes-ne-RECORD_SIZE.false _ c.record-r.ensures _ _ _ _ _ c.setting_answer-answer.ensures
    (c.put_setting.ensures.numbers _ t) (c.put_setting.ensures.settings_after _ t) in
    record { value = p.0; bytes_after = p.1 }
