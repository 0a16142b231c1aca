-- `player::panels::panel` meets its contract.
-- Assumes nothing.
use mathlib.Core.Path.{refl}
use Rattle.player.specs.Play.{with_booth, after_panel}
use Rattle.player.proofs.panels.panel.Goals as goal

pub returns : goal.returns
unfolding with_booth after_panel
returns c = record { player_value = rw c.select-player.ensures refl; puts = c.put_text.ensures }
