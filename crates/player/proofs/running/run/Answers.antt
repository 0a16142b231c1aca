-- `player::running::run` meets its contract: the outcome of the session's run is what is put, kept and written back to the current panel.
-- Assumes nothing.
use mathlib.Core.Path.{sym, ◌∙◌}
use lib.Seq.{length-take-le}
use Rattle.player.specs.Play.{with_booth}
use Rattle.player.proofs.Steps.{fresh_length, command_played}
use Rattle.player.proofs.running.run.Goals as goal

pub slice_bounds-shown-end : goal.slice_bounds-shown-end
slice_bounds-shown-end c = sym (length-take-le _ _ c.run-outcome.ensures.within)

pub returns : goal.returns
unfolding with_booth
returns c =
    let p = command_played c.args.player c.current_session-session.result c.args.command _ _ _ c.run-outcome.result c.with_current-player.result _ _ _ _ _ _
    c.fresh_buffer-buffer.ensures c.requires c.current_session-session.ensures (c.run-outcome.auto.buffer ∙ fresh_length _ c.fresh_buffer-buffer.ensures)
    c.run-outcome.ensures c.with_current-player.ensures c.put_line.ensures c.kept_size.ensures c.keep.ensures in record { player_value = p.0; puts = p.1.0; line_fits = p.1.1 }
