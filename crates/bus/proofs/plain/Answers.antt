-- The world after the call stands at the place.
-- Assumes nothing.
use Rattle.std.proofs.Common.{◌≡◌, length, arith}
use Rattle.bus.proofs.AtPlaces.{plain_is}
use Rattle.bus.proofs.plain.Goals as goal

pub returns-clause-value : goal.returns-clause-value
returns-clause-value c =
    let four : length c.args.panels ≡ 4 = omega arith in
    (plain_is c.args.panels four c.args.request c.args.lent.now _ c.args.place _ _ c.min-place.ensures c.step-answer.ensures).0
