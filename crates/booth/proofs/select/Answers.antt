-- The sessions stay.
-- Assumes nothing.
use Rattle.std.proofs.Common.{◌≡◌, length, arith}
use Rattle.booth.proofs.Steps.{select_is}
use Rattle.booth.proofs.select.Goals as goal

pub returns : goal.returns
returns c = let four : length c.args.booth.sessions ≡ 4 = omega arith in select_is c.args.booth four c.args.place
