-- `capi::lp586x_chip_at_reset` meets its contract.
-- Assumes nothing.
use native.Mathlib.Omega.{arith}
use Rattle.capi.proofs.InPlace.{opened_inside, chip_wrong_size, at_reset_refused, at_reset_done}
use Rattle.capi.proofs.lp586x_chip_at_reset.Goals as goal

pub returns-then-bytes-ne-CHIP_SIZE : goal.returns-then-bytes-ne-CHIP_SIZE
returns-then-bytes-ne-CHIP_SIZE c = let p = chip_wrong_size _ _ _ _ c.if-bytes-ne-CHIP_SIZE.true c.wrong_size.ensures in record { value = p.0; bytes_after = p.1 }

pub put_chip-requires : goal.put_chip-requires
put_chip-requires c = let inside = opened_inside _ _ _ _ c.open_answer.ensures c.in-Ok.is in (omega arith, inside.0, inside.1, inside.2)

pub returns-in-Ok : goal.returns-in-Ok
returns-in-Ok c = let p = at_reset_done _ _ _ _ _ c.open_answer.ensures c.if-bytes-ne-CHIP_SIZE.false _ c.in-Ok.is c.put_chip.ensures in record { value = p.0; bytes_after = p.1 }

pub returns-in-Err : goal.returns-in-Err
returns-in-Err c = let p = at_reset_refused _ _ _ _ _ c.open_answer.ensures c.if-bytes-ne-CHIP_SIZE.false _ _ c.in-Err.is c.refusal_number.ensures in record { value = p.0; bytes_after = p.1 }
