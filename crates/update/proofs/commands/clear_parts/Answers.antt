-- `update::commands::clear_parts` meets its contract.
-- Assumes nothing.
use mathlib.Core.Path.{refl}
use mathlib.Core.List.{[], ◌∷◌}
use Rattle.burst.specs.Burst.{head_first, head_second, transaction_of, list_of, encode}
use Rattle.update.proofs.commands.clear_parts.Goals as goal

pub returns : goal.returns
unfolding encode list_of transaction_of head_first head_second
returns c = let done = c.put_command.ensures 0x0A7 (0x0F ∷ 0x0F ∷ []) _ refl refl in record { value = done.0; buffer_after = done.1 }
