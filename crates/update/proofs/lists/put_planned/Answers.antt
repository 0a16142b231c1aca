-- `update::lists::put_planned` meets its contract.
-- Assumes nothing.
use native.Mathlib.Omega.{arith}
use Prim.Native.Nat.{◌+◌, ◌-◌}
use Rattle.writes.specs.FoundLaws.{going_some}
use Rattle.update.proofs.Loops.{written_start, written_more, written_done, is_there}
use Rattle.update.proofs.WholeList.{n_fits}
use Rattle.update.proofs.lists.put_planned.Goals as goal

pub loop-i-init : goal.loop-i-init
loop-i-init c = (0, omega arith, written_start _ _ _ _)

pub unwrap-write-requires : goal.unwrap-write-requires
unwrap-write-requires c =
    let f = n_fits _ _ _ _ c.requires.1 in
    is_there _ _ _ (c.next_write.ensures.next_write c.requires.0) (going_some _ _ _ _ c.loop-i.invariant.2.going (omega (arith, c.loop-i.invariant.1, f.2)))

pub loop-i-preserved : goal.loop-i-preserved
loop-i-preserved c =
    let placed = rw c.unwrap-write.ensures at c.next_write.ensures.placed in
    let next = rw c.unwrap-write.ensures at c.next_write.ensures.next_write in
    (c.loop-i.invariant.0 + 1, omega (arith, c.loop-i.invariant.1), written_more _ c.requires.0.settings_size _ _ _ _ _ _ _ _ _ _ c.loop-i.invariant.2 c.loop-i.invariant.1 c.loop-i-test.true placed (next c.requires.0) _ _ c.put_length.ensures c.put_transaction.ensures)

pub returns : goal.returns
returns c = written_done _ _ _ _ _ _ _ _ (c.args.size.n - c.args.size.first) (omega (arith, c.loop-i.invariant.1)) c.loop-i.invariant.2
