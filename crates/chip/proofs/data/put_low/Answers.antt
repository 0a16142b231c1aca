-- `chip::data::put_low` meets its contract.
-- Assumes nothing.
use mathlib.Core.Bool.{false}
use Rattle.chip.proofs.Steps.{puts_opens, puts_shorts, puts_byte}
use Rattle.chip.proofs.data.put_low.Goals as goal

pub returns-then-commands : goal.returns-then-commands
returns-then-commands c = puts_opens _ _ _ _ false _ _ c.commands.ensures c.if-commands.true c.faults_off.ensures

pub returns-then-commands-2 : goal.returns-then-commands-2
returns-then-commands-2 c =
    puts_shorts _ _ _ _ _ _ _ c.commands.ensures c.if-commands.false c.commands-2.ensures c.if-commands-2.true
    c.faults_off-then-commands-2.ensures

pub returns : goal.returns
returns c =
    puts_byte _ _ _ _ _ _ c.args.registers.now c.low_mask.result _ c.commands.ensures c.if-commands.false
    c.commands-2.ensures c.if-commands-2.false c.low_mask.ensures c.merge.ensures
