-- `capi::lp586x_open` meets its contract.
-- Assumes nothing.
use native.Mathlib.Omega.{arith}
use Rattle.capi.proofs.InPlace.{opened_inside, wrong_size, open_refused, open_done}
use Rattle.capi.proofs.lp586x_open.Goals as goal

pub returns-then-bytes-ne-RECORD_SIZE : goal.returns-then-bytes-ne-RECORD_SIZE
returns-then-bytes-ne-RECORD_SIZE c = let p = wrong_size _ _ _ c.if-bytes-ne-RECORD_SIZE.true c.wrong_size.ensures in record { value = p.0; bytes_after = p.1 }

pub put_record-requires : goal.put_record-requires
put_record-requires c = let inside = opened_inside _ _ _ _ c.open_answer.ensures c.in-Ok.is in (omega arith, inside.0, inside.1, inside.2)

pub returns-in-Ok : goal.returns-in-Ok
returns-in-Ok c = let p = open_done _ _ _ _ _ c.open_answer.ensures c.if-bytes-ne-RECORD_SIZE.false _ c.in-Ok.is c.put_record.ensures in record { value = p.0; bytes_after = p.1 }

pub returns-in-Err : goal.returns-in-Err
returns-in-Err c = let p = open_refused _ _ _ _ _ c.open_answer.ensures c.if-bytes-ne-RECORD_SIZE.false _ _ c.in-Err.is c.refusal_number.ensures in record { value = p.0; bytes_after = p.1 }
