-- `update::commands::reset_parts` meets its contract.
-- Assumes nothing.
use mathlib.Core.Path.{refl}
use mathlib.Core.List.{[], ◌∷◌}
use Rattle.burst.specs.Burst.{head_first, head_second, transaction_of, list_of, encode}
use Rattle.update.proofs.commands.reset_parts.Goals as goal

pub returns : goal.returns
unfolding encode list_of transaction_of head_first head_second
returns c = let done = c.put_command.ensures 0x0A9 (0xFF ∷ []) _ refl refl in record { value = done.0; buffer_after = done.1 }
