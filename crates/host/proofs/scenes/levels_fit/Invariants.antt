-- `host::scenes::levels_fit` meets its contract.
-- Assumes nothing.
use mathlib.Core.Path.{◌≡◌}
use mathlib.Core.Bool.{true}
use Rattle.map.specs.Lists.{all_from}
use Rattle.host.specs.Record.{scene_fits}
use Rattle.host.proofs.scenes.levels_fit.Given as goal

abbrev pub invariant-loop-i : goal.invariant-loop-i
invariant-loop-i l = all_from (scene_fits l.top l.bytes) 0 l.i ≡ true
