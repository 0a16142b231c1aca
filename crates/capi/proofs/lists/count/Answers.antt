-- `capi::lists::count` meets its contract.
-- Assumes nothing.
use mathlib.Core.Path.{subst}
use native.Mathlib.Omega.{arith}
use Rattle.capi.proofs.Listed.{counted_listed}
use Rattle.capi.specs.Capi.{Fits}
use Rattle.capi.proofs.lists.count.Goals as goal

pub overflow_cast-n : goal.overflow_cast-n
overflow_cast-n c = omega (arith, subst Fits c.in-Ok.is c.requires)

pub overflow_cast-t : goal.overflow_cast-t
overflow_cast-t c = omega (arith, subst Fits c.in-Ok.is c.requires)

pub returns-in-Ok : goal.returns-in-Ok
returns-in-Ok c = let p = counted_listed _ _ _ _ c.in-Ok.is in record { value = p.0; n_after = p.1.0; t_after = p.1.1 }
