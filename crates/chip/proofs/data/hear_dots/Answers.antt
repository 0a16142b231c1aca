-- `chip::data::hear_dots` meets its contract.
-- Assumes nothing.
use native.Mathlib.Omega.{arith}
use Rattle.chip.proofs.Steps.{heard_none, heard_past, heard_all, dots_more}
use Rattle.chip.proofs.data.hear_dots.Goals as goal

pub loop-i-init : goal.loop-i-init
loop-i-init c = heard_none _ _ _ _ _

pub returns-then-address-gt907 : goal.returns-then-address-gt907
returns-then-address-gt907 c = heard_past _ _ _ _ _ _ _ c.loop-i.invariant (omega arith)

pub loop-i-preserved : goal.loop-i-preserved
loop-i-preserved c =
    dots_more _ _ _ _ _ _ c.dot_mask.result _ (omega arith) (omega arith) (omega arith)
    c.loop-i.invariant c.dot_mask.ensures c.merge.ensures

pub returns : goal.returns
returns c = heard_all _ _ _ _ _ _ _ c.loop-i.invariant c.loop-i-test.false
