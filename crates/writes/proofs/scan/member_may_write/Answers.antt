-- `writes::scan::member_may_write` meets its contract.
-- Assumes nothing.
use mathlib.Core.Path.{sym, ◌∙◌}
use Rattle.host.specs.RecordLaws.{not_locked}
use Rattle.writes.proofs.Marks.{taken}
use Rattle.writes.proofs.scan.member_may_write.Goals as goal

pub returns-then-lock_keeps : goal.returns-then-lock_keeps
returns-then-lock_keeps c = sym (not_locked _ _ (sym c.lock_keeps.ensures ∙ c.if-lock_keeps.true))

pub returns : goal.returns
returns c =
    taken _ _ _ _ _ _ c.args.member.its_lines c.args.member.its_columns c.kind_at-kind.ensures c.reserved_as-mask.ensures
    (sym c.lock_keeps.ensures ∙ c.if-lock_keeps.false)
