-- `map::registers::group_mask` meets its contract.
-- Assumes nothing.
use mathlib.Core.Path.{sym}
use native.Mathlib.Omega.{arith}
use Rattle.map.specs.Map.{group_mask}
use Rattle.map.proofs.Masks.{group_past}
use Rattle.map.proofs.registers.group_mask.Goals as goal

pub returns-then-q-gt4 : goal.returns-then-q-gt4
returns-then-q-gt4 c = sym (group_past _ _ c.if-q-gt4.true)

pub returns : goal.returns
unfolding group_mask
returns c = omega arith
