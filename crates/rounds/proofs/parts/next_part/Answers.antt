-- A write is sent whole or cut, if three bytes are left.
-- Assumes nothing.
use Rattle.host.specs.Record.{record_behind}
use Rattle.rounds.proofs.Portions.{part_full, part_over, part_some}
use Rattle.rounds.proofs.parts.next_part.Goals as goal

pub returns-then-left-lt3-clause-next_part : goal.returns-then-left-lt3-clause-next_part
returns-then-left-lt3-clause-next_part c = part_full (record_behind c.args.r) c.args.from c.args.left c.if-left-lt3.true

pub returns-in_err-start-clause-next_part : goal.returns-in_err-start-clause-next_part
returns-in_err-start-clause-next_part c =
    rw c.from_residual.ensures (part_over (record_behind c.args.r) c.args.from c.args.left c.if-left-lt3.false c.in_err-start.ensures.next_is)

pub returns-clause-next_part : goal.returns-clause-next_part
returns-clause-next_part c =
    rw c.min.ensures
    (part_some (record_behind c.args.r) c.args.from c.args.left _ _ c.if-left-lt3.false c.in_ok-start.ensures.next_is c.in_ok-start.ensures.in_order.0)
