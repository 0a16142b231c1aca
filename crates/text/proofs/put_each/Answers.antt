-- `text::put_each` meets its contract.
-- Assumes nothing.
use Rattle.text.specs.TextLaws.{putting_none}
use Rattle.text.proofs.Steps.{each_more, each_all}
use Rattle.text.proofs.put_each.Goals as goal

pub loop-item-init : goal.loop-item-init
loop-item-init g c = λ shape puts. putting_none _ _ _

pub loop-item-preserved : goal.loop-item-preserved
loop-item-preserved g c =
    λ shape puts. each_more shape _ _ _ _ _ _ _ _ _ c.loop-item-test.true c.item-item.is (c.loop-item.invariant shape puts) (puts _ _ _ _ _ c.put_one-next.ensures)

pub returns : goal.returns
returns g c = λ shape puts. each_all shape _ _ _ _ _ _ c.loop-item-test.false (c.loop-item.invariant shape puts)
