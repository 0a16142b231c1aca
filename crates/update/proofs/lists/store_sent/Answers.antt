-- `update::lists::store_sent` meets its contract.
-- Assumes nothing.
use mathlib.Core.Path.{ap}
use Rattle.update.specs.Update.{is_listed}
use Rattle.update.proofs.ImageTaken.{count_listed, image_listed, image_none}
use Rattle.update.proofs.lists.store_sent.Goals as goal

pub returns-in-Ok-clause-stored : goal.returns-in-Ok-clause-stored
returns-in-Ok-clause-stored c settings lent u = count_listed _ _ _ _ _ _ u _ _ c.in-Ok.is _ _ c.store_list.ensures

pub returns-in-Ok-clause-image_after : goal.returns-in-Ok-clause-image_after
returns-in-Ok-clause-image_after c settings lent u = image_listed _ _ _ _ _ _ u _ _ c.in-Ok.is _ _ c.store_list.ensures

pub returns-in-Err-clause-image_after : goal.returns-in-Err-clause-image_after
returns-in-Err-clause-image_after c settings lent u = image_none _ _ _ _ _ _ u (ap is_listed c.in-Err.is)
