-- `host::scenes::put_all` meets its contract.
-- Assumes nothing.
use mathlib.Core.Path.{◌≡◌}
use Rattle.host.specs.Record.{put_scene}
use Rattle.host.proofs.scenes.put_all.Given as goal

abbrev pub invariant-loop-entry : goal.invariant-loop-entry
invariant-loop-entry l = l.settings ≡ put_scene l.bytes l.initial.settings l.entry
