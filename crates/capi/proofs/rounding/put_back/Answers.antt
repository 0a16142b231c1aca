-- `capi::rounding::put_back` meets its contract.
-- Assumes nothing.
use mathlib.Core.Path.{refl, ◌∙◌}
use native.Mathlib.Omega.{arith}
use Rattle.rounds.proofs.AtPlaces.{mark_at}
use Rattle.capi.specs.Capi.{kept_to}
use Rattle.capi.proofs.FourRecords.{kept_present, kept_absent}
use Rattle.capi.proofs.rounding.put_back.Goals as goal
use Rattle.capi.proofs.rounding.put_back.Goals.{then-present-place, else-present-place}

pub loop-place-init : goal.loop-place-init
unfolding kept_to
loop-place-init c = refl

pub loop-place-preserved : goal.loop-place-preserved
loop-place-preserved c =
    elim c.if-present-place.branch [
      | then-present-place w ↦ kept_present _ _ _ _ _ c.loop-place.invariant _ _ _ _ (mark_at c.args.present c.loop-place.place (omega arith) ∙ w.if-present-place.true) refl (omega arith) w.copy_from_slice.ensures.after w.bytes-is
      | else-present-place w ↦ w.bytes-is ∙ kept_absent _ _ _ _ _ c.loop-place.invariant (mark_at c.args.present c.loop-place.place (omega arith) ∙ w.if-present-place.false)
    ]
