-- Behind the last byte of a line every sink is absent.
-- Assumes nothing.
use mathlib.Core.Path.{◌≡◌}
use Prim.Native.Nat.{ℕ, ◌+◌, ◌*◌, ◌<◌}
use native.Mathlib.Omega.{arith}
use borrow.Author.Tests.{le-ltb}
use Rattle.map.specs.Map.{has_column, no_sink, group_mask, switch_mask}

none_past : (cs s : ℕ) → 17 < s → no_sink cs s ≡ 1
unfolding no_sink has_column
none_past cs s h = simp (le-ltb s 18 h)

pub group_past : (cs q : ℕ) → 4 < q → group_mask cs q ≡ 255
unfolding group_mask
group_past cs q h =
    simp (
      none_past cs (4 * q) (omega arith),
      none_past cs (4 * q + 1) (omega arith),
      none_past cs (4 * q + 2) (omega arith),
      none_past cs (4 * q + 3) (omega arith),
    )

pub switch_past : (cs q : ℕ) → 2 < q → switch_mask cs q ≡ 255
unfolding switch_mask
switch_past cs q h =
    simp (
      none_past cs (8 * q) (omega arith),
      none_past cs (8 * q + 1) (omega arith),
      none_past cs (8 * q + 2) (omega arith),
      none_past cs (8 * q + 3) (omega arith),
      none_past cs (8 * q + 4) (omega arith),
      none_past cs (8 * q + 5) (omega arith),
      none_past cs (8 * q + 6) (omega arith),
      none_past cs (8 * q + 7) (omega arith),
    )
