-- `writes::scan::write_end` meets its contract.
-- Assumes nothing.
use native.Mathlib.Omega.{arith}
use Rattle.plan.specs.NextLaws.{extends_more}
use Rattle.writes.proofs.Marks.{differ_on}
use Rattle.writes.proofs.scan.write_end.Goals as goal

pub loop-next-init : goal.loop-next-init
loop-next-init c = (c.past_differing-end.ensures.least, c.past_differing-end.ensures.most, c.past_differing-end.ensures.same, λ w. differ_on _ _ _ w _ _ c.requires.0 c.past_differing-end.ensures)

pub loop-next-preserved : goal.loop-next-preserved
loop-next-preserved c = (
  omega (arith, c.in-Some.ensures.placed.more),
  c.in-Some.ensures.placed.most,
  c.in-Some.ensures.placed.same,
  λ w. extends_more _ _ _ _ (c.loop-next.invariant.3 w) (c.in-Some.ensures.further w),
)
