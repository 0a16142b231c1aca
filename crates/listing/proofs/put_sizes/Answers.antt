-- `listing::put_sizes` meets its contract.
-- Assumes nothing.
use Rattle.listing.proofs.Steps.{sizes_put}
use Rattle.listing.proofs.put_sizes.Goals as goal

pub returns : goal.returns
returns c = sizes_put _ _ _ _ _ _ _ _ _ _ c.put_decimal-next.ensures c.put-next.ensures c.put_decimal.ensures
