-- `update::lists::enable_count` meets its contract.
-- Assumes nothing.
use Rattle.update.specs.PieceLaws.{enable_same, enable_other}
use Rattle.update.proofs.lists.enable_count.Goals as goal

pub returns-then-r : goal.returns-then-r
returns-then-r c = enable_same c.args.r.settings.now c.args.r.image.now c.if-r.true

pub returns-else-r : goal.returns-else-r
returns-else-r c = enable_other c.args.r.settings.now c.args.r.image.now c.if-r.false
