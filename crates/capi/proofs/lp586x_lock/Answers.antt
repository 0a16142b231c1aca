-- `capi::lp586x_lock` meets its contract.
-- Assumes nothing.
use Rattle.capi.proofs.InPlace.{wrong_size, lock_done, lock_refused}
use Rattle.capi.proofs.lp586x_lock.Goals as goal

pub returns-then-bytes-ne-RECORD_SIZE : goal.returns-then-bytes-ne-RECORD_SIZE
returns-then-bytes-ne-RECORD_SIZE c = let p = wrong_size _ _ _ c.if-bytes-ne-RECORD_SIZE.true c.wrong_size.ensures in record { value = p.0; bytes_after = p.1 }

pub returns-in-Ok : goal.returns-in-Ok
returns-in-Ok c =
    let p = lock_done _ c.if-bytes-ne-RECORD_SIZE.false _ c.record.ensures _ _ c.lock_answer.ensures c.in-Ok.is c.put_marks.ensures in
    record { value = p.0; bytes_after = p.1 }

pub returns-in-Err : goal.returns-in-Err
returns-in-Err c =
    let p = lock_refused _ c.if-bytes-ne-RECORD_SIZE.false _ c.record.ensures _ _ _ c.lock_answer.ensures c.in-Err.is c.refusal_number.ensures in
    record { value = p.0; bytes_after = p.1 }
