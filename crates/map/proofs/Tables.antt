-- Past the first twelve registers all bits are reserved.
-- Assumes nothing.
use mathlib.Core.Path.{◌≡◌, refl}
use mathlib.Core.Bool.{Bool, true, false, cond}
use Prim.Native.Nat.{ℕ, ◌<◌}
use native.Mathlib.Omega.{arith}
use lib.Dec.{eqb}
use lib.ListN.{get_or, length, get_or-eq_default}
use Rattle.map.specs.Map.{first_masks, common_masks, lp5861t_masks}

masks_length : (m : ℕ) → length (first_masks m) ≡ 12
unfolding first_masks
masks_length m = go (eqb m 1)
  where
    go : (b : Bool) → length (cond b lp5861t_masks common_masks) ≡ 12
    go true = refl
    go false = refl

pub masks_past : (m a : ℕ) → 11 < a → get_or (first_masks m) a 255 ≡ 255
masks_past m a h = get_or-eq_default (first_masks m) 255 (omega (arith, masks_length m))
