use borrow.Author.Tests.{eq-eqb, ne_eqb}
use Rattle.burst.specs.Burst.{head_writes}
use Rattle.burst.proofs.heads.head_writes.Goals as goal

pub returns-then-bus-eq0 : goal.returns-then-bus-eq0
unfolding head_writes
returns-then-bus-eq0 c = simp (eq-eqb _ _ c.if-bus-eq0.true)

pub returns : goal.returns
unfolding head_writes
returns c = simp (ne_eqb _ _ c.if-bus-eq0.false)
