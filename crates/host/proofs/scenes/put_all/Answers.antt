-- `host::scenes::put_all` meets its contract.
-- Assumes nothing.
use mathlib.Core.Path.{sym, ap, ◌∙◌}
use lib.ListN.{length}
use Rattle.dots.specs.Dots.{wide_of}
use Rattle.host.proofs.Steps.{scene_mode, scene_none, scene_more, scene_length}
use Rattle.host.proofs.scenes.put_all.Goals as goal

pub loop-entry-init : goal.loop-entry-init
loop-entry-init c = scene_none _ _

pub loop-entry-preserved : goal.loop-entry-preserved
loop-entry-preserved c =
    let mode = c.wide-wide.ensures ∙ sym (scene_mode _ _ _) ∙ ap wide_of (sym c.loop-entry.invariant) in
    scene_more _ _ _ _ _ _ _ c.requires.0 c.word-level.ensures.0 c.loop-entry.invariant (c.put_level_as.ensures mode)

pub shape_of-settings : goal.shape_of-settings
shape_of-settings c = ap length c.loop-entry.invariant ∙ scene_length _ _ _
