-- The write of 000h first, if it is to be sent.
-- Assumes nothing.
use Rattle.std.proofs.Common.{arith}
use Rattle.host.specs.Record.{record_behind}
use Rattle.rounds.proofs.Waiting.{waiting_past, waiting_enables, waiting_starts}
use Rattle.rounds.proofs.parts.next_waiting.Goals as goal

pub returns-then-from-gt0-clause-next_is : goal.returns-then-from-gt0-clause-next_is
returns-then-from-gt0-clause-next_is c =
    waiting_past (record_behind c.args.r) c.args.from c.if-from-gt0.true c.next_planned.result c.next_planned.ensures.in_order c.next_planned.ensures.next_is

pub returns-then-r-clause-next_is : goal.returns-then-r-clause-next_is
returns-then-r-clause-next_is c = waiting_enables (record_behind c.args.r) c.args.from (omega arith) c.if-r.true

pub returns-clause-next_is : goal.returns-clause-next_is
returns-clause-next_is c =
    waiting_starts (record_behind c.args.r) c.args.from (omega arith) c.if-r.false c.next_planned-2.result c.next_planned-2.ensures.in_order c.next_planned-2.ensures.next_is
