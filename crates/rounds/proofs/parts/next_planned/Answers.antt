-- Settings that are off have no write; those that are on have the plan's.
-- Assumes nothing.
use Rattle.host.specs.Record.{record_behind}
use Rattle.writes.specs.WholeLaws.{sound_whole}
use Rattle.rounds.proofs.Waiting.{planned_off, planned_on}
use Rattle.rounds.proofs.parts.next_planned.Goals as goal

pub returns-then-r-ne1-clause-next_is : goal.returns-then-r-ne1-clause-next_is
returns-then-r-ne1-clause-next_is c = planned_off (record_behind c.args.r) c.args.from c.if-r-ne1.true

pub returns-clause-next_is : goal.returns-clause-next_is
returns-clause-next_is c =
    planned_on (record_behind c.args.r) c.args.from c.if-r-ne1.false c.next_write.result c.next_write.ensures.placed
    (c.next_write.ensures.next_write (sound_whole (record_behind c.args.r) c.requires))
