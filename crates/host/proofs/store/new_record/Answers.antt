-- `host::store::new_record` meets its contract.
-- Assumes nothing.
use mathlib.Core.Path.{refl}
use Rattle.host.specs.Record.{opened}
use Rattle.host.proofs.store.new_record.Goals as goal

pub returns : goal.returns
unfolding opened
returns c = rw c.reset_image-image.ensures refl
