-- `host::power_lost` meets its contract.
-- Assumes nothing.
use Rattle.std.proofs.Common.{ap, ◌∙◌}
use Rattle.host.specs.Record.{sound_answer}
use Rattle.map.specs.Images.{reset_image}
use Rattle.host.proofs.Steps.{lost_is}
use Rattle.host.proofs.LockSteps.{lost_image}
use Rattle.host.proofs.power_lost.Goals as goal

pub returns : goal.returns
returns c =
    let answer = c.sound_answer-answer.ensures ∙ ap sound_answer c.lent.ensures in
    lost_is c.args.r _ _ _ _ answer c.answer_numbers.ensures c.marked-r.ensures
    (c.put_lost.ensures ∙ lost_image c.args.r c.sound_answer-answer.result (reset_image c.args.r.header.member) answer)
