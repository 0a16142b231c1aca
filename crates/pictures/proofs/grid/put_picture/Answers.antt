-- `pictures::grid::put_picture` meets its contract.
-- Assumes nothing.
use Rattle.pictures.proofs.Steps.{rows_none, rows_first, rows_more, rows_all}
use Rattle.pictures.proofs.grid.put_picture.Goals as goal

pub returns-then-lines-eq0 : goal.returns-then-lines-eq0
returns-then-lines-eq0 g c = λ char draws. rows_none char _ _ _ _ c.lines-lines.ensures.0 c.if-lines-eq0.true

pub loop-line-init : goal.loop-line-init
loop-line-init g c = λ char draws. rows_first char _ _ _

pub loop-line-preserved : goal.loop-line-preserved
loop-line-preserved g c =
    λ char draws. rows_more char _ _ _ _ _ _ (c.loop-line.invariant char draws) _ _ _ _ c.loop-line-test.true c.put-next.ensures (c.put_row-next-in-loop-line.ensures char draws)

pub returns : goal.returns
returns g c =
    λ char draws. rows_all char _ _ _ _ _ _ (c.loop-line.invariant char draws) _ _ _ c.lines-lines.ensures.0 c.if-lines-eq0.false (c.put_row-next.ensures char draws) c.loop-line-test.false
