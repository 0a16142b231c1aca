-- `pictures::differences::put_registers` meets its contract.
-- Assumes nothing.
use mathlib.Core.Path.{sym, ◌∙◌}
use native.Mathlib.Omega.{arith}
use Rattle.pictures.proofs.Steps.{listed_first, listed_more, listed_not, listed_all}
use Rattle.pictures.proofs.differences.put_registers.Goals as goal
use Rattle.pictures.proofs.differences.put_registers.Goals.{then-differs_at, else-differs_at}

pub loop-address-init : goal.loop-address-init
loop-address-init c = listed_first _ _ _ _ _ _

pub loop-address-preserved : goal.loop-address-preserved
loop-address-preserved c =
    elim c.if-differs_at.branch [
      | then-differs_at w ↦
          rw (w.text-is, w.next-is)
          (listed_more _ _ _ _ _ _ _ _ _ c.loop-address.invariant _ _ _ _ c.loop-address-test.true (sym c.differs_at.ensures ∙ w.if-differs_at.true) w.put-next.ensures
          w.put_register-next-then-differs_at.ensures)
      | else-differs_at w ↦
          rw (w.text-is, w.next-is) (listed_not _ _ _ _ _ _ _ _ _ c.loop-address.invariant c.loop-address-test.true (sym c.differs_at.ensures ∙ w.if-differs_at.false))
    ]

pub returns : goal.returns
returns c = listed_all _ _ _ _ _ _ _ _ _ c.loop-address.invariant _ _ c.requires.0 c.requires.1 c.put_register-next.ensures (omega arith)
