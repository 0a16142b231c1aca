-- `writes::writer::copy` meets its contract.
-- Assumes nothing.
use native.Mathlib.Omega.{arith}
use Rattle.writes.proofs.Bytes.{copied_most}
use Rattle.writes.proofs.writer.copy.Goals as goal

pub store-requires : goal.store-requires
store-requires c = λ h. (omega (arith, c.room.ensures, c.room-count.ensures), omega (arith, c.room.ensures, c.room-count.ensures))

pub returns : goal.returns
returns c = copied_most c.args.to.now c.args.from.now c.args.at c.args.start _ _ _ _ c.room.ensures c.room-count.ensures c.store.ensures.to_after
