-- `images::low_ok` meets its contract.
-- Assumes nothing.
use Rattle.std.proofs.Common.{◌≡◌, ◌∙◌, refl, ℕ, List}
use native.Mathlib.Omega.{arith}
use Rattle.map.specs.Lists.{table_from}
use Rattle.map.specs.Map.{lines_of, columns_of, has_column, kind_of, first_masks, first_mask, no_sink, group_mask, switch_mask, group_reserved, switch_reserved, reserved_as, reserved_of, first_reset, switch_bytes_of, switch_reset, current_reset, reset_as, reset_of}
use Rattle.images.proofs.Steps.{low_is}
use Rattle.images.proofs.low_ok.Goals as goal
use Rattle.images.proofs.low_ok.Goals.{in-0, in-1, in-2, in-3, in_default}

pub returns : goal.returns
unfolding table_from reserved_of reserved_as kind_of lines_of columns_of has_column first_masks first_mask no_sink group_mask group_reserved switch_mask switch_reserved reset_of reset_as first_reset switch_bytes_of switch_reset current_reset
returns c =
    let image : List ℕ = c.args.image.now in
    elim c.match-member.branch [
      | in-0 w ↦ low_is 0 image c.fits-image c.told-image (w.bits-is ∙ w.differing-bits.ensures) w.in-0.is refl refl
      | in-1 w ↦ low_is 1 image c.fits-image c.told-image (w.bits-is ∙ w.differing-bits-in-1.ensures) w.in-1.is refl refl
      | in-2 w ↦ low_is 2 image c.fits-image c.told-image (w.bits-is ∙ w.differing-bits-in-2.ensures) w.in-2.is refl refl
      | in-3 w ↦ low_is 3 image c.fits-image c.told-image (w.bits-is ∙ w.differing-bits-in-3.ensures) w.in-3.is refl refl
      | in_default w ↦ let last : c.args.member ≡ 4 = omega arith in low_is 4 image c.fits-image c.told-image (w.bits-is ∙ w.differing-bits-in_default.ensures) last refl refl
    ]
