-- `listing::put_transactions` meets its contract.
-- Assumes nothing.
use Rattle.listing.proofs.Steps.{Shown}
use Rattle.listing.proofs.put_transactions.Given as goal

abbrev pub invariant-loop-i : goal.invariant-loop-i
invariant-loop-i l = Shown l.separator l.bus l.initial.text l.at l.list l.n l.text l.next l.from l.i
