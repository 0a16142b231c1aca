-- One write more, or the portion is over.
-- Assumes nothing.
use Rattle.std.proofs.Common.{arith}
use Rattle.host.specs.Record.{record_behind}
use Rattle.rounds.proofs.Portions.{counting_start, counting_more, counting_done}
use Rattle.rounds.proofs.parts.part_size.Goals as goal

pub loop-part-init : goal.loop-part-init
loop-part-init c = counting_start (record_behind c.args.r) c.requires.sound c.args.room

pub loop-part-preserved : goal.loop-part-preserved
loop-part-preserved c = counting_more _ _ _ _ _ c.loop-part.invariant c.in-Some.part c.in-Some.ensures.fits c.in-Some.ensures.next_part

pub returns : goal.returns
returns c =
    let g = c.loop-part.invariant in
    (counting_done _ _ _ _ _ g c.in_default.ensures.next_part, omega (arith, g.counted, g.going.few, g.going.begun.spent), omega arith)
