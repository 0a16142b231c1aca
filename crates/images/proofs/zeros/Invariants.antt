-- `images::zeros` meets its contract: the bits are none where the bytes so far are 0.
-- Assumes nothing.
use Rattle.std.proofs.Common.{◌≡◌, ◌-◌, eqb}
use Rattle.map.specs.Lists.{all_from}
use Rattle.map.specs.Images.{zero_at}
use Rattle.images.proofs.zeros.Given as goal

abbrev pub invariant-loop-address : goal.invariant-loop-address
invariant-loop-address l = all_from (zero_at l.image) l.from (l.address - l.from) ≡ eqb l.bits 0
