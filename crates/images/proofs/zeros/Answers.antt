-- `images::zeros` meets its contract.
-- Assumes nothing.
use Rattle.std.proofs.Common.{◌≡◌, ◌-◌, ap, ◌∙◌, ℕ}
use native.Mathlib.Omega.{arith}
use Rattle.map.specs.Lists.{all_from}
use Rattle.map.specs.ListLaws.{all_none}
use Rattle.map.specs.Images.{zero_at}
use Rattle.images.proofs.Steps.{zeros_more}
use Rattle.images.proofs.zeros.Goals as goal

pub loop-address-init : goal.loop-address-init
loop-address-init c =
    let none : c.args.from - c.args.from ≡ 0 = omega arith in
    ap (λ (n : ℕ). all_from (zero_at c.args.image.now) c.args.from n) none ∙ all_none _ _

pub loop-address-preserved : goal.loop-address-preserved
loop-address-preserved c = zeros_more c.args.image.now c.args.from c.loop-address.address c.loop-address.bits (omega arith) c.loop-address.invariant
