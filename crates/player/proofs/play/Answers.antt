-- `player::play` meets its contract.
-- Assumes nothing.
use Rattle.player.proofs.Steps.{played}
use Rattle.player.proofs.play.Goals as goal

pub returns : goal.returns
returns c = let p = played _ _ _ _ _ _ _ _ _ _ _ c.trimmed-line.ensures c.counting-player.ensures c.put_echo-next.ensures (c.play_line.ensures.player_value, (c.play_line.ensures.puts, c.play_line.ensures.line_fits)) in record { player_value = p.0; puts = p.1.0; line_fits = p.1.1 }
