use borrow.Author.Tests.{eq-eqb, ne_eqb}
use Rattle.burst.specs.Burst.{head_second}
use Rattle.burst.proofs.heads.head_second.Goals as goal

pub returns-then-bus-eq0 : goal.returns-then-bus-eq0
unfolding head_second
returns-then-bus-eq0 c = simp (eq-eqb _ _ c.if-bus-eq0.true)

pub returns : goal.returns
unfolding head_second
returns c = simp (ne_eqb _ _ c.if-bus-eq0.false)
