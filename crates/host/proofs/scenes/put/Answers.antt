-- `host::scenes::put` meets its contract.
-- Assumes nothing.
use mathlib.Core.Path.{sym, ap, ◌∙◌}
use Rattle.host.specs.Record.{put_scene}
use Rattle.host.proofs.Steps.{scene_long, scene_size}
use Rattle.host.proofs.scenes.put.Goals as goal

pub word-requires : goal.word-requires
word-requires c = scene_long _ (sym c.sized.ensures ∙ c.if-sized.true)

pub put_all-requires : goal.put_all-requires
put_all-requires c =
    let count = c.word.ensures.0 in
    (count, scene_size _ (sym c.sized.ensures ∙ c.if-sized.true) _ count)

pub returns-then-sized : goal.returns-then-sized
returns-then-sized c =
    c.put_all.ensures
    ∙ ap (put_scene _ _) c.word.ensures.0
    ∙ simp (sym c.sized.ensures ∙ c.if-sized.true)

pub returns-else-sized : goal.returns-else-sized
returns-else-sized c = simp (sym c.sized.ensures ∙ c.if-sized.false)
