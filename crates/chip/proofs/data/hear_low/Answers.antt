-- `chip::data::hear_low` meets its contract.
-- Assumes nothing.
use Rattle.chip.proofs.Steps.{low_reset, low_unheard, low_heard}
use Rattle.chip.proofs.data.hear_low.Goals as goal

pub returns-then-commands : goal.returns-then-commands
returns-then-commands c =
    let p = low_reset _ _ _ _ c.args.registers.now _ c.told-registers c.commands.ensures c.if-commands.true c.put_reset.ensures in
    record { answers = p.0; stores = p.1 }

pub returns-then-hears : goal.returns-then-hears
returns-then-hears c =
    let p = low_heard _ _ _ _ _ _ _ _ c.requires c.commands.ensures c.if-commands.false c.hears.ensures c.if-hears.true c.put_low.ensures in
    record { answers = p.0; stores = p.1 }

pub returns-else-hears : goal.returns-else-hears
returns-else-hears c =
    let p = low_unheard _ _ _ _ _ _ _ c.commands.ensures c.if-commands.false c.hears.ensures c.if-hears.false in
    record { answers = p.0; stores = p.1 }
