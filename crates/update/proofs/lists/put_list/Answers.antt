-- `update::lists::put_list` meets its contract.
-- Assumes nothing.
use Rattle.update.proofs.WholeList.{n_fits, pieces}
use Rattle.update.proofs.lists.put_list.Goals as goal

pub put_front-requires : goal.put_front-requires
put_front-requires c = (c.requires.1.first_small, (n_fits _ _ _ _ c.requires.1).1)

pub returns : goal.returns
returns c = pieces _ _ _ _ c.requires.1 c.requires.0.settings_size _ _ _ c.put_front.ensures c.put_planned.ensures
