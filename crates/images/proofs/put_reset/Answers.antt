-- `images::put_reset` meets its contract.
-- Assumes nothing.
use Rattle.std.proofs.Common.{◌∙◌, refl}
use native.Mathlib.Omega.{arith}
use Rattle.map.specs.Lists.{table, table_from}
use Rattle.map.specs.Map.{lines_of, kind_of, first_reset, switch_bytes_of, switch_reset, current_reset, reset_as, reset_of}
use Rattle.map.specs.Images.{reset_image}
use Rattle.images.proofs.Steps.{puts, stays, is_reset}
use Rattle.images.proofs.Whole.{no_member}
use Rattle.images.proofs.put_reset.Goals as goal

pub returns-then-image-ne908 : goal.returns-then-image-ne908
returns-then-image-ne908 c = stays _ _ c.if-image-ne908.true

pub returns-in-0 : goal.returns-in-0
unfolding reset_image table table_from reset_of reset_as kind_of lines_of first_reset switch_bytes_of switch_reset current_reset
returns-in-0 c = puts c.args.image.now _ _ c.if-image-ne908.false (c.put.ensures ∙ is_reset 0 c.args.member refl c.in-0.is)

pub returns-in-1 : goal.returns-in-1
unfolding reset_image table table_from reset_of reset_as kind_of lines_of first_reset switch_bytes_of switch_reset current_reset
returns-in-1 c = puts c.args.image.now _ _ c.if-image-ne908.false (c.put-in-1.ensures ∙ is_reset 1 c.args.member refl c.in-1.is)

pub returns-in-2 : goal.returns-in-2
unfolding reset_image table table_from reset_of reset_as kind_of lines_of first_reset switch_bytes_of switch_reset current_reset
returns-in-2 c = puts c.args.image.now _ _ c.if-image-ne908.false (c.put-in-2.ensures ∙ is_reset 2 c.args.member refl c.in-2.is)

pub returns-in-3 : goal.returns-in-3
unfolding reset_image table table_from reset_of reset_as kind_of lines_of first_reset switch_bytes_of switch_reset current_reset
returns-in-3 c = puts c.args.image.now _ _ c.if-image-ne908.false (c.put-in-3.ensures ∙ is_reset 3 c.args.member refl c.in-3.is)

pub returns-in-4 : goal.returns-in-4
unfolding reset_image table table_from reset_of reset_as kind_of lines_of first_reset switch_bytes_of switch_reset current_reset
returns-in-4 c = puts c.args.image.now _ _ c.if-image-ne908.false (c.put-in-4.ensures ∙ is_reset 4 c.args.member refl c.in-4.is)

pub returns-in_default : goal.returns-in_default
unfolding table table_from
returns-in_default c = puts c.args.image.now _ _ c.if-image-ne908.false (c.put-in_default.ensures ∙ no_member _ _ (omega arith) refl)
