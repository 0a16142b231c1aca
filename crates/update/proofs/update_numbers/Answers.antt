-- `update::update_numbers` meets its contract.
-- Assumes nothing.
use Rattle.std.proofs.Common.{sym, ◌∙◌}
use Rattle.update.proofs.Fixed.{stored_behind, stored_not}
use Rattle.update.proofs.update_numbers.Goals as goal

pub returns-then-is_ok : goal.returns-then-is_ok
returns-then-is_ok c = stored_behind _ _ _ (sym c.is_ok.ensures.value ∙ c.if-is_ok.true) c.list_numbers-numbers.ensures
