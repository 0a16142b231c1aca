-- `capi::set` meets its contract.
-- Assumes nothing.
use native.Mathlib.Omega.{arith}
use Rattle.capi.proofs.InPlace.{set_number, number_fits}
use Rattle.capi.proofs.set.Goals as goal

pub overflow_cast-result : goal.overflow_cast-result
overflow_cast-result c = omega (arith, number_fits _ _ _ _ c.set_numbers.ensures.value)

pub returns : goal.returns
returns c = record { value = set_number _ _ _ _ c.set_numbers.ensures.value; bytes_after = c.set_numbers.ensures.bytes_after }
