-- `writes::scan::past_differing` meets its contract.
-- Assumes nothing.
use native.Mathlib.Omega.{arith}
use Rattle.writes.proofs.Bytes.{differing_more, differing_done}
use Rattle.writes.proofs.scan.past_differing.Goals as goal

pub returns-then-settings-a : goal.returns-then-settings-a
returns-then-settings-a c = differing_done _ _ _ _ c.loop-a.invariant (λ h. c.if-settings-a.true)

pub loop-a-preserved : goal.loop-a-preserved
loop-a-preserved c = differing_more _ _ _ _ (omega arith) c.loop-a.invariant c.if-settings-a.false
