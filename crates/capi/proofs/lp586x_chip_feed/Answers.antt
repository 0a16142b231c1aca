-- `capi::lp586x_chip_feed` meets its contract.
-- Assumes nothing.
use Rattle.capi.proofs.InPlace.{chip_wrong_size, feed_done}
use Rattle.capi.proofs.lp586x_chip_feed.Goals as goal

pub returns-then-bytes-ne-CHIP_SIZE : goal.returns-then-bytes-ne-CHIP_SIZE
returns-then-bytes-ne-CHIP_SIZE c = let p = chip_wrong_size _ _ _ _ c.if-bytes-ne-CHIP_SIZE.true c.wrong_size.ensures in record { value = p.0; bytes_after = p.1 }

pub returns : goal.returns
returns c = let p = feed_done _ c.if-bytes-ne-CHIP_SIZE.false _ _ _ _ c.feed_registers-answer.ensures.answers c.feed_registers-answer.ensures.stores c.answer_number.ensures in record { value = p.0; bytes_after = p.1 }
