-- `map::registers::switch_mask` meets its contract.
-- Assumes nothing.
use mathlib.Core.Path.{sym}
use native.Mathlib.Omega.{arith}
use Rattle.map.specs.Map.{switch_mask}
use Rattle.map.proofs.Masks.{switch_past}
use Rattle.map.proofs.registers.switch_mask.Goals as goal

pub returns-then-q-gt2 : goal.returns-then-q-gt2
returns-then-q-gt2 c = sym (switch_past _ _ c.if-q-gt2.true)

pub returns : goal.returns
unfolding switch_mask
returns c = omega arith
