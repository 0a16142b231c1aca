-- `writes::scan::further` meets its contract.
-- Assumes nothing.
use native.Mathlib.Omega.{arith}
use Rattle.writes.proofs.Marks.{none_near, hole_before, joins, differ_below}
use Rattle.writes.proofs.scan.further.Goals as goal

pub returns-in_err-next-clause-further : goal.returns-in_err-next-clause-further
returns-in_err-next-clause-further c w = rw c.from_residual.ensures (none_near _ _ _ _ c.requires.0 c.requires.2 c.in_err-next.ensures)

pub returns-in-Some-clause-further : goal.returns-in-Some-clause-further
returns-in-Some-clause-further c w = hole_before _ _ _ _ c.requires.0 c.requires.2 _ _ c.in_ok-next.ensures c.in-Some.ensures.0 c.in-Some.ensures.1 c.in-Some.ensures.2

pub overflow_add-next : goal.overflow_add-next
overflow_add-next c = omega (arith, differ_below _ _ _ c.in_ok-next.ensures.differs)

pub past_differing-requires : goal.past_differing-requires
past_differing-requires c = omega (arith, differ_below _ _ _ c.in_ok-next.ensures.differs)

pub returns-in-None-clause-further : goal.returns-in-None-clause-further
returns-in-None-clause-further c w = joins _ _ _ w _ _ _ c.requires.0 c.requires.2 c.in_ok-next.ensures c.in-None.ensures c.past_differing.ensures
