-- `player::asides::echoed` meets its contract.
-- Assumes nothing.
use Rattle.std.proofs.Common.{arith}
use Rattle.std.proofs.lemmas.List.{take_min}
use Rattle.player.proofs.asides.echoed.Goals as goal

pub returns : goal.returns
returns c = (omega (arith, c.min.ensures), rw c.min.ensures (take_min 8192 c.args.line.now))
