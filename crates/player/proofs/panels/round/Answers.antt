-- `player::panels::round` meets its contract: what it hands on is the answer of `round_within`, and the player as it came but for its panels.
-- Assumes nothing.
use mathlib.Core.Path.{sym, ◌∙◌}
use native.Mathlib.Omega.{arith}
use lib.Seq.{length-take-le}
use Rattle.player.specs.Play.{with_booth}
use Rattle.player.proofs.Steps.{fresh_length, round_put}
use Rattle.player.proofs.panels.round.Goals as goal

pub slice_bounds-shown-end : goal.slice_bounds-shown-end
slice_bounds-shown-end c = sym (length-take-le _ _ (omega (arith, c.requires, c.round_within-rounded.auto.buffer, fresh_length _ c.fresh_buffer-buffer.ensures)))

pub returns : goal.returns
unfolding with_booth
returns c =
    let p = round_put c.args.player c.args.marks c.args.limit c.args.room _ _ c.round_within-rounded.result _ _ _ _ _ _ c.fresh_buffer-buffer.ensures
    (c.round_within-rounded.auto.buffer ∙ fresh_length _ c.fresh_buffer-buffer.ensures) c.round_within-rounded.ensures.value c.round_within-rounded.ensures.buffer_after
    c.put_line.ensures c.size_by.ensures c.keep.ensures in record { player_value = p.0; puts = p.1.0; line_fits = p.1.1 }
