-- `host::scenes::answer` meets its contract.
-- Assumes nothing.
use Rattle.std.proofs.Common.{ap, not}
use mathlib.Core.Path.{sym, ◌∙◌}
use borrow.Author.Tests.{not-true, not-false}
use Rattle.host.specs.Record.{scene_answer}
use Rattle.host.proofs.Steps.{scene_long, scene_size, scene_has_dots, counted, levels_counted}
use Rattle.host.proofs.scenes.answer.Goals as goal

pub returns-then-not-sized : goal.returns-then-not-sized
unfolding scene_answer
returns-then-not-sized c = simp (sym c.sized.ensures ∙ not-true _ (ap not c.if-not-sized.true))

pub word-n-requires : goal.word-n-requires
word-n-requires c = scene_long _ (sym c.sized.ensures ∙ not-false _ (ap not c.if-not-sized.false))

pub has_dots-requires : goal.has_dots-requires
has_dots-requires c =
    let sized = sym c.sized.ensures ∙ not-false _ (ap not c.if-not-sized.false) in
    scene_has_dots _ sized _ c.word-n.ensures.0

pub returns-then-not-has_dots : goal.returns-then-not-has_dots
unfolding scene_answer
returns-then-not-has_dots c =
    let sized = sym c.sized.ensures ∙ not-false _ (ap not c.if-not-sized.false) in
    let count = c.word-n.ensures.0 in
    simp (sized, counted _ _ _ _ count c.has_dots.ensures ∙ not-true _ (ap not c.if-not-has_dots.true))

pub levels_fit-requires : goal.levels_fit-requires
levels_fit-requires c =
    let sized = sym c.sized.ensures ∙ not-false _ (ap not c.if-not-sized.false) in
    let count = c.word-n.ensures.0 in
    (count, scene_size _ sized _ count)

pub returns-then-not-levels_fit : goal.returns-then-not-levels_fit
unfolding scene_answer
returns-then-not-levels_fit c =
    let count = c.word-n.ensures.0 in
    simp (
      sym c.sized.ensures ∙ not-false _ (ap not c.if-not-sized.false),
      counted _ _ _ _ count c.has_dots.ensures ∙ not-false _ (ap not c.if-not-has_dots.false),
      levels_counted _ _ _ _ _ count c.top_level.ensures c.levels_fit.ensures ∙ not-true _ (ap not c.if-not-levels_fit.true),
    )

pub returns : goal.returns
unfolding scene_answer
returns c =
    let count = c.word-n.ensures.0 in
    simp (
      sym c.sized.ensures ∙ not-false _ (ap not c.if-not-sized.false),
      counted _ _ _ _ count c.has_dots.ensures ∙ not-false _ (ap not c.if-not-has_dots.false),
      levels_counted _ _ _ _ _ count c.top_level.ensures c.levels_fit.ensures ∙ not-false _ (ap not c.if-not-levels_fit.false),
    )
