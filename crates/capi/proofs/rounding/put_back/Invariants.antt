-- `capi::rounding::put_back` meets its contract.
-- Assumes nothing.
use mathlib.Core.Path.{◌≡◌}
use Rattle.capi.specs.Capi.{kept_to}
use Rattle.capi.proofs.rounding.put_back.Given as goal

abbrev pub invariant-loop-place : goal.invariant-loop-place
invariant-loop-place l = l.bytes ≡ kept_to l.place l.present l.initial.bytes l.images
