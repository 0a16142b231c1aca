-- `host::store::put_byte` meets its contract.
-- Assumes nothing.
use mathlib.Core.Path.{sym}
use lib.Seq.{set_out}
use Rattle.host.proofs.store.put_byte.Goals as goal

pub returns-else-address-settings : goal.returns-else-address-settings
returns-else-address-settings c = sym (set_out _ _ _ c.if-address-settings.false)
