-- `pictures::grid::put_row` meets its contract.
-- Assumes nothing.
use Rattle.pictures.proofs.Steps.{row_none, row_more, row_all}
use Rattle.pictures.proofs.grid.put_row.Goals as goal

pub loop-sink-init : goal.loop-sink-init
loop-sink-init g c = λ char draws. row_none char _ _ _

pub loop-sink-preserved : goal.loop-sink-preserved
loop-sink-preserved g c = λ char draws. row_more char _ _ _ _ _ _ (c.loop-sink.invariant char draws) _ _ _ c.loop-sink-test.true (draws _ _ _ c.char_of.ensures) c.put-next.ensures

pub returns : goal.returns
returns g c = λ char draws. row_all char _ _ _ _ _ _ (c.loop-sink.invariant char draws) c.loop-sink-test.false
