-- `writes::writer::store` meets its contract.
-- Assumes nothing.
use native.Mathlib.Omega.{arith}
use Rattle.writes.proofs.Bytes.{copied_none, copied_more, copied_all}
use Rattle.writes.proofs.writer.store.Goals as goal

pub loop-i-init : goal.loop-i-init
loop-i-init c = (omega arith, copied_none _ _ _ _)

pub overflow_add-to : goal.overflow_add-to
overflow_add-to c = omega (arith, (c.requires (omega arith)).1)

pub bounds-from-start : goal.bounds-from-start
bounds-from-start c = omega (arith, (c.requires (omega arith)).1)

pub overflow_add-to-in-loop-i : goal.overflow_add-to-in-loop-i
overflow_add-to-in-loop-i c = omega (arith, (c.requires (omega arith)).0)

pub bounds-to-at : goal.bounds-to-at
bounds-to-at c = omega (arith, (c.requires (omega arith)).0, c.loop-i.invariant.1.size)

pub loop-i-preserved : goal.loop-i-preserved
loop-i-preserved c = (omega arith, copied_more _ _ _ _ c.loop-i.i _ (omega (arith, (c.requires (omega arith)).1)) c.loop-i.invariant.1)

pub returns : goal.returns
returns c = record { value = omega arith; to_after = copied_all _ _ _ _ c.args.len c.loop-i.i _ (omega arith) c.loop-i.invariant.1 }
