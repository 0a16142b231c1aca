-- `chip::lists::apply_one` meets its contract.
-- Assumes nothing.
use Rattle.chip.proofs.Steps.{applies_write, applies_none, write_small}
use Rattle.chip.proofs.lists.apply_one.Goals as goal

pub hear-requires : goal.hear-requires
hear-requires c = write_small _ _ _ _ _ _ c.decode.ensures c.in-Write.is

pub returns-in-Write : goal.returns-in-Write
returns-in-Write c = applies_write _ _ _ _ _ _ c.decode.ensures _ _ c.in-Write.is c.hear.ensures

pub returns-in-PassesBy : goal.returns-in-PassesBy
returns-in-PassesBy c = applies_none _ _ _ _ _ _ c.decode.ensures c.in-PassesBy.is
