-- One write more, or all are written.
-- Assumes nothing.
use Rattle.std.proofs.Common.{refl, arith}
use Rattle.host.specs.Record.{record_behind}
use Rattle.rounds.proofs.Putting.{putting_start, putting_more, putting_done}
use Rattle.rounds.proofs.parts.put_writes.Goals as goal

pub loop-part-init : goal.loop-part-init
loop-part-init c = putting_start (record_behind c.args.r) _ _ _ _ _ c.requires.sound

pub loop-part-preserved : goal.loop-part-preserved
loop-part-preserved c =
    putting_more _ _ _ _ _ _ c.requires.sound c.requires.free _ _ _ _ _ c.loop-part.invariant c.in-Some.part c.in-Some.ensures.fits c.in-Some.ensures.next_part
    _ refl _ _ _ c.put_length.ensures c.put_transaction.ensures c.copy.ensures

pub returns-clause-value : goal.returns-clause-value
returns-clause-value c = (putting_done _ _ _ _ _ _ c.requires.sound c.requires.free _ _ _ _ _ c.loop-part.invariant c.in_default.ensures.next_part).0

pub returns-clause-buffer_after : goal.returns-clause-buffer_after
returns-clause-buffer_after c = (putting_done _ _ _ _ _ _ c.requires.sound c.requires.free _ _ _ _ _ c.loop-part.invariant c.in_default.ensures.next_part).1

pub returns-clause-image_after : goal.returns-clause-image_after
returns-clause-image_after c = (putting_done _ _ _ _ _ _ c.requires.sound c.requires.free _ _ _ _ _ c.loop-part.invariant c.in_default.ensures.next_part).2
