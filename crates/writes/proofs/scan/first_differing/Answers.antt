-- `writes::scan::first_differing` meets its contract.
-- Assumes nothing.
use native.Mathlib.Omega.{arith}
use Rattle.writes.proofs.Bytes.{same_more}
use Rattle.writes.proofs.scan.first_differing.Goals as goal

pub returns-then-settings-a : goal.returns-then-settings-a
returns-then-settings-a c = record { to = c.loop-a.invariant; below = omega arith; differs = c.if-settings-a.true }

pub loop-a-preserved : goal.loop-a-preserved
loop-a-preserved c = same_more _ _ _ _ c.loop-a.invariant c.if-settings-a.false
