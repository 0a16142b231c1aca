-- `capi::lp586x_chip_power_lost` meets its contract.
-- Assumes nothing.
use Rattle.capi.proofs.InPlace.{chip_wrong_size, chip_lost_done}
use Rattle.capi.proofs.lp586x_chip_power_lost.Goals as goal

pub returns-then-bytes-ne-CHIP_SIZE : goal.returns-then-bytes-ne-CHIP_SIZE
returns-then-bytes-ne-CHIP_SIZE c = let p = chip_wrong_size _ _ _ _ c.if-bytes-ne-CHIP_SIZE.true c.wrong_size.ensures in record { value = p.0; bytes_after = p.1 }

pub returns : goal.returns
returns c = let p = chip_lost_done _ c.if-bytes-ne-CHIP_SIZE.false _ c.lose_power.ensures in record { value = p.0; bytes_after = p.1 }
