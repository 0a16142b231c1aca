-- `dots::put_byte` meets its contract.
-- Assumes nothing.
use mathlib.Core.Path.{sym}
use lib.Seq.{set_out}
use Rattle.dots.proofs.put_byte.Goals as goal

pub returns-else-address-image : goal.returns-else-address-image
returns-else-address-image c = sym (set_out _ _ _ c.if-address-image.false)
