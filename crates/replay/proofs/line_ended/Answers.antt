-- `replay::line_ended` meets its contract: where the longest line has no room behind what waits, that is written.
-- Assumes nothing.
use Rattle.std.proofs.Common.{arith}
use Rattle.replay.specs.OutputLaws.{room_waits}
use Rattle.replay.proofs.line_ended.Goals as goal

pub returns-clause-length_in_bounds : goal.returns-clause-length_in_bounds
returns-clause-length_in_bounds g c =
    let room = room_waits _ _ c.play.ensures.at_in_bounds (omega arith) in
    (omega (arith, c.play.ensures.length_value), omega (arith, c.with_room.ensures, room))
