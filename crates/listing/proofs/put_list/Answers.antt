-- `listing::put_list` meets its contract.
-- Assumes nothing.
use Rattle.listing.specs.Show.{list_text}
use Rattle.listing.proofs.put_list.Goals as goal

pub returns : goal.returns
unfolding list_text
returns c = c.put_separated.ensures
