-- `player::panels::round_within` meets its contract.
-- Assumes nothing.
use mathlib.Core.Path.{sym, ◌∙◌}
use lib.Seq.{take_at, length-take-le}
use Rattle.player.proofs.panels.round_within.Goals as goal

pub slice_bounds-round-end-2 : goal.slice_bounds-round-end-2
slice_bounds-round-end-2 c = sym (length-take-le _ _ c.requires)

pub returns : goal.returns
returns c = record { value = c.round.ensures.value; buffer_after = take_at _ _ _ (c.round.auto.buffer ∙ length-take-le _ _ c.requires) ∙ c.round.ensures.buffer_after }
