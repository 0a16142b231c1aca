-- The answer has room for its list, and the chips hear that list.
-- Assumes nothing.
use Rattle.std.proofs.Common.{◌≡◌, length, arith}
use Rattle.bus.proofs.Lists.{answer_within, bus_round}
use Rattle.bus.proofs.round.Goals as goal

pub heard-requires : goal.heard-requires
heard-requires c = answer_within _ c.args.present c.args.limit c.args.buffer.now _ _ c.round-answer.ensures.value c.round-answer.ensures.buffer_after

pub returns-clause-value : goal.returns-clause-value
returns-clause-value c =
    let four : length c.args.panels ≡ 4 = omega arith in
    (bus_round c.args.panels four c.args.present c.args.limit c.args.buffer.now _ c.records_in.ensures _ _ _ c.round-answer.ensures.value c.round-answer.ensures.buffer_after c.heard.ensures).0

pub returns-clause-buffer_after : goal.returns-clause-buffer_after
returns-clause-buffer_after c =
    let four : length c.args.panels ≡ 4 = omega arith in
    (bus_round c.args.panels four c.args.present c.args.limit c.args.buffer.now _ c.records_in.ensures _ _ _ c.round-answer.ensures.value c.round-answer.ensures.buffer_after c.heard.ensures).1
