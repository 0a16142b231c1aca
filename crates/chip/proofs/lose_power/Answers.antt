-- `chip::lose_power` meets its contract.
-- Assumes nothing.
use Rattle.chip.proofs.Steps.{loses, loses_nothing}
use Rattle.chip.proofs.lose_power.Goals as goal

pub returns-then-member-lt5 : goal.returns-then-member-lt5
returns-then-member-lt5 c = loses c.args.member c.args.registers.now _ c.if-member-lt5.true c.put_reset.ensures

pub returns-else-member-lt5 : goal.returns-else-member-lt5
returns-else-member-lt5 c = loses_nothing c.args.member _ c.if-member-lt5.false
