use native.Mathlib.Omega.{arith}
use Rattle.burst.proofs.Steps.{address_i2c, address_spi}
use Rattle.burst.proofs.heads.head_address.Goals as goal

pub returns-then-bus-eq0 : goal.returns-then-bus-eq0
returns-then-bus-eq0 c = address_i2c _ _ _ c.if-bus-eq0.true (omega arith)

pub returns : goal.returns
returns c = address_spi _ _ _ c.if-bus-eq0.false (omega arith) (omega arith)
