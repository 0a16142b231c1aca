-- `host::scenes::has_dots` meets its contract.
-- Assumes nothing.
use Rattle.std.proofs.Common.{ap, not, ◌+◌, ◌-◌}
use mathlib.Core.Path.{sym, ◌∙◌}
use native.Mathlib.Omega.{arith}
use borrow.Author.Tests.{not-true, not-false}
use Rattle.map.specs.ListLaws.{all_none}
use Rattle.host.proofs.Steps.{next_holds, one_fails, scene_dot_lem}
use Rattle.host.proofs.scenes.has_dots.Goals as goal

pub loop-number-init : goal.loop-number-init
loop-number-init c = all_none _ _

pub returns-then-not-number_in : goal.returns-then-not-number_in
returns-then-not-number_in c =
    sym
    (one_fails _ _ c.loop-number.number-index (omega arith)
    (scene_dot_lem _ _ c.args.n (2 + c.args.n - 2) c.loop-number.number-index _ (omega arith) c.lines-lines.ensures.0 c.columns-columns.ensures c.number_in.ensures (omega arith)
    ∙ not-true _ (ap not c.if-not-number_in.true)))

pub loop-number-preserved : goal.loop-number-preserved
loop-number-preserved c =
    next_holds _ _
    (scene_dot_lem _ _ c.args.n (2 + c.args.n - 2) c.loop-number.number-index _ (omega arith) c.lines-lines.ensures.0 c.columns-columns.ensures c.number_in.ensures (omega arith)
    ∙ not-false _ (ap not c.if-not-number_in.false))
    c.loop-number.invariant
