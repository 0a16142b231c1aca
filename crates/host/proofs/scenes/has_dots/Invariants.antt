-- `host::scenes::has_dots` meets its contract: the numbers so far are those of dots.
-- Assumes nothing.
use mathlib.Core.Path.{◌≡◌}
use mathlib.Core.Bool.{true}
use Rattle.map.specs.Lists.{all_from}
use Rattle.host.specs.Record.{scene_has_dot}
use Rattle.host.proofs.scenes.has_dots.Given as goal

abbrev pub invariant-loop-number : goal.invariant-loop-number
invariant-loop-number l = all_from (scene_has_dot l.member l.bytes) 0 l.number-index ≡ true
