-- `faults::untested::mark` meets its contract.
-- Assumes nothing.
use mathlib.Core.Path.{ap, ◌∙◌}
use native.Mathlib.Omega.{arith}
use Rattle.faults.specs.Faults.{tested_from}
use Rattle.faults.proofs.Steps.{marked_none, marked_more, marked_whole}
use Rattle.faults.proofs.untested.mark.Goals as goal

pub loop-dot-init : goal.loop-dot-init
loop-dot-init c = marked_none _ _

pub loop-dot-preserved : goal.loop-dot-preserved
loop-dot-preserved c =
    marked_more _ _ _ _ _ _ _ (omega arith) c.requires.1 (c.level_as.ensures c.requires.0).0
    (c.tested_from-figure.ensures ∙ ap tested_from c.requires.0) c.unless_dim.ensures c.loop-dot.invariant

pub shape_of-res : goal.shape_of-res
shape_of-res c = c.loop-dot.invariant.room

pub returns : goal.returns
returns c = marked_whole _ _ _ c.loop-dot.dot (omega arith) c.loop-dot.invariant
