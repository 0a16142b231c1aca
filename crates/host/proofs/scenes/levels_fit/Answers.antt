-- `host::scenes::levels_fit` meets its contract.
-- Assumes nothing.
use mathlib.Core.Path.{sym}
use native.Mathlib.Omega.{arith}
use Rattle.map.specs.ListLaws.{all_none}
use Rattle.host.proofs.Steps.{next_holds, one_fails, level_above, level_within}
use Rattle.host.proofs.scenes.levels_fit.Goals as goal

pub loop-i-init : goal.loop-i-init
loop-i-init c = all_none _ _

pub returns-then-top-word : goal.returns-then-top-word
returns-then-top-word c =
    sym
    (one_fails _ _ _ (omega arith)
    (level_above _ _ _ c.loop-i.i _ c.requires.0 c.word.ensures.0 c.if-top-word.true))

pub loop-i-preserved : goal.loop-i-preserved
loop-i-preserved c =
    next_holds _ _
    (level_within _ _ _ c.loop-i.i _ c.requires.0 c.word.ensures.0 c.if-top-word.false)
    c.loop-i.invariant
