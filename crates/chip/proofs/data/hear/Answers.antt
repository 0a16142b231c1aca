-- `chip::data::hear` meets its contract.
-- Assumes nothing.
use Rattle.std.proofs.Common.{ap, not}
use native.Mathlib.Omega.{arith}
use borrow.Author.Tests.{eq-eqb, ne_eqb}
use Rattle.chip.proofs.Steps.{heard_none, heard_reset, heard_more, heard_all, heard_unheard, heard_dots}
use Rattle.chip.proofs.data.hear.Goals as goal

pub loop-i-init : goal.loop-i-init
loop-i-init c = (heard_none _ _ _ _ _, omega arith)

pub returns-then-on : goal.returns-then-on
returns-then-on c = heard_dots _ _ _ _ _ _ _ c.loop-i.invariant.0 _ (eq-eqb _ _ c.if-on.true) c.hear_dots.ensures

pub returns-else-on : goal.returns-else-on
returns-else-on c = heard_unheard _ _ _ _ _ _ _ c.loop-i.invariant.0 (ne_eqb _ _ c.if-on.false) c.if-address-ge256.true

pub returns-then-not-hear_low : goal.returns-then-not-hear_low
returns-then-not-hear_low c =
    heard_reset _ _ _ _ _ _ _ c.loop-i.invariant.0 _ _ c.loop-i-test.true c.hear_low.ensures.answers (ap not c.if-not-hear_low.true)
    c.hear_low.ensures.stores

pub loop-i-preserved : goal.loop-i-preserved
loop-i-preserved c = (
  heard_more _ _ _ _ _ _ _ c.loop-i.invariant.0 _ _ c.loop-i-test.true c.hear_low.ensures.answers (ap not c.if-not-hear_low.false)
      c.hear_low.ensures.stores,
  omega arith,
)

pub returns : goal.returns
returns c = heard_all _ _ _ _ _ _ _ c.loop-i.invariant.0 c.loop-i-test.false
