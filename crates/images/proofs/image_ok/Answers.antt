-- `images::image_ok` meets its contract.
-- Assumes nothing.
use Rattle.std.proofs.Common.{rules, ◌∙◌, refl, sym}
use Rattle.map.specs.Lists.{all_from}
use Rattle.map.specs.Images.{ok_at}
use Rattle.map.specs.ImageLaws.{registers_ok_lem}
use Rattle.images.proofs.Steps.{and_then, and_else}
use Rattle.images.proofs.Whole.{zero_faults, registers_and_faults}
use Rattle.images.proofs.image_ok.Goals as goal

pub zeros-requires : goal.zeros-requires
zeros-requires c = let size = (registers_ok_lem _ _ (sym c.if-registers_ok.ensures)).size in search rules

pub returns-then-registers_ok : goal.returns-then-registers_ok
returns-then-registers_ok c =
    let size = (registers_ok_lem _ _ (sym c.if-registers_ok.ensures)).size in
    and_then _ _ _ (sym c.if-registers_ok.ensures) (c.zeros.ensures ∙ zero_faults c.args.member c.args.image.now size)
    ∙ registers_and_faults c.args.member c.args.image.now

pub returns-else-registers_ok : goal.returns-else-registers_ok
returns-else-registers_ok c =
    c.registers_ok.ensures
    ∙ and_else _ _ (all_from (ok_at c.args.member c.args.image.now) 0x064 67) (sym c.registers_ok.ensures ∙ c.if-registers_ok.false) refl
    ∙ registers_and_faults c.args.member c.args.image.now
