use Rattle.burst.proofs.Steps.{Counted}
use Rattle.burst.proofs.sizes.lengths_good.Given as goal

abbrev pub invariant-loop-i : goal.invariant-loop-i
invariant-loop-i l = Counted l.list l.n l.sum l.i
