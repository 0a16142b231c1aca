-- `pictures::lamps::lamp_char` meets its contract.
-- Assumes nothing.
use Rattle.std.proofs.Common.{ap, not}
use mathlib.Core.Path.{sym, ◌∙◌}
use native.Mathlib.Omega.{arith}
use borrow.Author.Tests.{not-true, not-false}
use Rattle.map.specs.PlaceLaws.{dot_number_lem}
use Rattle.pictures.specs.PictureLaws.{lamp_absent}
use Rattle.pictures.proofs.Steps.{top_fits, lamp_is}
use Rattle.pictures.proofs.lamps.lamp_char.Goals as goal

pub returns-then-not-is_dot : goal.returns-then-not-is_dot
returns-then-not-is_dot c = sym (lamp_absent _ _ _ _ (sym c.is_dot.ensures ∙ not-true _ (ap not c.if-not-is_dot.true)))

pub overflow_mul-line : goal.overflow_mul-line
overflow_mul-line c = omega (arith, dot_number_lem _ _ _ (sym c.is_dot.ensures ∙ not-false _ (ap not c.if-not-is_dot.false)))

pub overflow_add-line : goal.overflow_add-line
overflow_add-line c = omega (arith, dot_number_lem _ _ _ (sym c.is_dot.ensures ∙ not-false _ (ap not c.if-not-is_dot.false)))

pub overflow_cast-line : goal.overflow_cast-line
overflow_cast-line c = omega (arith, dot_number_lem _ _ _ (sym c.is_dot.ensures ∙ not-false _ (ap not c.if-not-is_dot.false)))

pub dot_char-requires : goal.dot_char-requires
dot_char-requires c =
    let fits = top_fits _ _ c.top_level.ensures in
    (fits.0, fits.1, c.level-level.ensures.1)

pub returns : goal.returns
returns c =
    let there = sym c.is_dot.ensures ∙ not-false _ (ap not c.if-not-is_dot.false) in
    lamp_is _ _ _ _ _ _ _ _ _ there c.is_on.ensures c.top_level.ensures c.level-level.ensures.0
    c.field-switch.ensures c.dot_char.ensures
