-- `listing::put_separated` meets its contract.
-- Assumes nothing.
use Rattle.listing.proofs.Steps.{separates_bad, transactions_asked, separates_good}
use Rattle.listing.proofs.put_separated.Goals as goal

pub returns-in_default : goal.returns-in_default
returns-in_default c = separates_bad _ _ c.read_sizes.ensures _ _ _ _ _ _ c.in_default.is c.put_refusal.ensures

pub put_transactions-requires : goal.put_transactions-requires
put_transactions-requires c = transactions_asked _ _ c.read_sizes.ensures _ _ c.in-Some.is

pub returns : goal.returns
returns c = separates_good _ _ c.read_sizes.ensures _ _ c.in-Some.is _ _ _ _ _ _ _ _ c.put_sizes-next.ensures c.put_transactions.ensures
