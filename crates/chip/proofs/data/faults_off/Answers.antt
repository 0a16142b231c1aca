-- `chip::data::faults_off` meets its contract.
-- Assumes nothing.
use native.Mathlib.Omega.{arith}
use lib.ListN.{length-set}
use Rattle.chip.proofs.Steps.{zeros_put}
use Rattle.chip.proofs.data.faults_off.Goals as goal

pub returns : goal.returns
returns c = zeros_put _ _ _ (rw length-set (omega arith)) _ _ (omega arith) (c.fill.ensures.after (λ y e. e))
