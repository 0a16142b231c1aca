use Rattle.burst.proofs.Steps.{Summed}
use Rattle.burst.proofs.places.bytes_before.Given as goal

abbrev pub invariant-loop-i : goal.invariant-loop-i
invariant-loop-i l = Summed l.list l.index l.bytes l.i
