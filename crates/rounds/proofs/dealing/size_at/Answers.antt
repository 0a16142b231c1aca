-- Nothing waits where nobody is present.
-- Assumes nothing.
use Rattle.std.proofs.Common.{arith}
use Rattle.host.specs.Record.{record_behind}
use Rattle.rounds.proofs.Shares.{absent_sized}
use Rattle.rounds.proofs.dealing.size_at.Goals as goal

pub returns-else-present : goal.returns-else-present
returns-else-present c = (absent_sized c.args.room c.args.present (record_behind c.args.r) c.if-present.false, omega arith, omega arith)
