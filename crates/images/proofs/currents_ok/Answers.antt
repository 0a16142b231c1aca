-- `images::currents_ok` meets its contract.
-- Assumes nothing.
use Rattle.std.proofs.Common.{◌∙◌, refl, sym, ap, not, ℕ, eqb, ◌*◌}
use native.Mathlib.Omega.{arith}
use borrow.Author.Tests.{ne_eqb}
use Rattle.map.specs.Lists.{all_from, table_from}
use Rattle.map.specs.Map.{columns_of, current_reserved, current_reset, dot_in, has_column, kind_of, lines_of, number_in, reserved_as, reserved_of, reset_as, reset_of}
use Rattle.map.specs.Images.{ok_at}
use Rattle.images.proofs.Steps.{row_part, free_from, free}
use Rattle.images.proofs.currents_ok.Goals as goal

pub returns-then-member-ne3 : goal.returns-then-member-ne3
unfolding all_from free_from reserved_of reserved_as kind_of lines_of columns_of has_column dot_in number_in current_reserved
returns-then-member-ne3 c = ap not (ne_eqb _ _ c.if-member-ne3.true) ∙ sym (free 0x100 18 _ _ c.requires c.if-member-ne3.true refl c.fits-image)

pub returns-else-member-ne3 : goal.returns-else-member-ne3
unfolding table_from reserved_of reserved_as kind_of lines_of columns_of has_column dot_in number_in current_reserved reset_of reset_as current_reset
returns-else-member-ne3 c =
    ap (λ (b : ℕ). eqb b 0) c.differing.ensures
    ∙ row_part 3 0x100 126 126 c.args.image.now _ _ c.fits-image (omega arith) (omega arith) refl refl
    ∙ ap (λ (m : ℕ). all_from (ok_at m c.args.image.now) 0x100 (18 * lines_of m)) (sym c.if-member-ne3.false)
