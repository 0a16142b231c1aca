-- The session stands at the current place.
-- Assumes nothing.
use Rattle.std.proofs.Common.{◌≡◌, length, arith}
use Rattle.booth.proofs.Steps.{put_current}
use Rattle.booth.proofs.with_current.Goals as goal

pub returns : goal.returns
returns c = let four : length c.args.booth.sessions ≡ 4 = omega arith in put_current c.args.booth four c.args.session _ c.min.ensures
