-- `update::lists::put_front` meets its contract.
-- Assumes nothing.
use native.Mathlib.Omega.{arith}
use Rattle.update.proofs.WholeList.{front_none, front_first}
use Rattle.update.proofs.lists.put_front.Goals as goal

pub returns-then-size-eq1 : goal.returns-then-size-eq1
returns-then-size-eq1 c = front_first c.args.header c.args.settings.now c.args.buffer.now _ _ _ c.args.size.t c.put_header.ensures _ _ c.if-size-eq1.true c.put_length.ensures c.put_transaction.ensures

pub returns-else-size-eq1 : goal.returns-else-size-eq1
returns-else-size-eq1 c = front_none c.args.header c.args.settings.now c.args.buffer.now _ _ _ c.args.size.t c.put_header.ensures (omega arith)
