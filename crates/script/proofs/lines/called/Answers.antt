-- `script::lines::called` meets its contract.
-- Assumes nothing.
use Rattle.std.proofs.Common.{◌∙◌, ap, None, Some}
use Rattle.script.proofs.Judging.{judged_here}
use Rattle.script.proofs.lines.called.Goals as goal

pub returns-in_err-first : goal.returns-in_err-first
returns-in_err-first c = c.from_residual-in_err-first.ensures ∙ judged_here _ _ _ _ _ _ _ None c.line_table-lines.ensures.words c.line_table-lines.ensures.kinds c.word.ensures c.row_of.ensures c.in_ok-row.was c.kinds_of.ensures c.in_err-first.ensures

pub returns : goal.returns
returns c =
    ap Some c.call.ensures
    ∙ judged_here _ _ _ _ _ _ _ (Some (c.in_ok-first.first, c.in_ok-first.second, c.in_ok-first.third))
    c.line_table-lines.ensures.words c.line_table-lines.ensures.kinds c.word.ensures c.row_of.ensures c.in_ok-row.was c.kinds_of.ensures c.in_ok-first.ensures
