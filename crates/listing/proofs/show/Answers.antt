-- `listing::show` meets its contract.
-- Assumes nothing.
use Rattle.listing.proofs.Steps.{shows_long, shows_list}
use Rattle.listing.proofs.show.Goals as goal

pub returns-then-list-gt65536 : goal.returns-then-list-gt65536
returns-then-list-gt65536 c = shows_long _ _ _ _ _ _ _ c.put.ensures c.if-list-gt65536.true c.put_refusal-next.ensures

pub returns : goal.returns
returns c = shows_list _ _ _ _ _ _ _ c.put-2.ensures c.if-list-gt65536.false c.put_separated-next.ensures
