-- `listing::put_transaction` meets its contract.
-- Assumes nothing.
use Rattle.listing.proofs.Steps.{transaction_put}
use Rattle.listing.proofs.put_transaction.Goals as goal

pub returns : goal.returns
returns c =
    transaction_put _ _ _ c.args.list.now c.requires.0 c.requires.1 _ _ _ _ _ _ _ _ _ _
    c.put_text-next.ensures c.address_of.ensures
    c.put_address-next.ensures c.put_spaced_bytes.ensures
