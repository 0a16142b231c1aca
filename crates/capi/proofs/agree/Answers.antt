-- `capi::agree` meets its contract. What each answer's numbers are is computed; a flag is 1 or 0.
-- Assumes nothing.
use mathlib.Core.Path.{refl}
use Rattle.faults.specs.Faults.{answer_numbers}
use Rattle.capi.proofs.InPlace.{bool_number}
use Rattle.capi.proofs.agree.Goals as goal

pub returns-in-Ok : goal.returns-in-Ok
unfolding answer_numbers
returns-in-Ok c = rw c.in-Ok.is (record { value = refl; opens_after = bool_number c.in-Ok.agrees.opens; shorts_after = bool_number c.in-Ok.agrees.shorts })

pub returns-in-Err : goal.returns-in-Err
unfolding answer_numbers
returns-in-Err c = rw c.in-Err.is (record { value = c.refusal_number.ensures; opens_after = refl; shorts_after = refl })
