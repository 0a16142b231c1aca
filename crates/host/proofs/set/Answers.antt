-- `host::set` meets its contract.
-- Assumes nothing.
use Rattle.std.proofs.Common.{ap, ◌∙◌}
use Rattle.host.specs.Record.{setting_answer}
use Rattle.host.specs.RecordLaws.{changed_is}
use Rattle.host.proofs.set.Goals as goal

pub returns : goal.returns
returns c =
    let answer = c.setting_answer-answer.ensures ∙ ap (λ r. setting_answer r c.args.setting c.args.lent.now) c.lent.ensures in
    changed_is c.args.r c.args.setting c.args.lent.now _ _ _ answer (c.put_setting-numbers.ensures.numbers _ answer) (c.put_setting-numbers.ensures.settings_after _ answer)
