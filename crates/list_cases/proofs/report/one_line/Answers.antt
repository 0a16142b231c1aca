-- `list_cases::report::one_line` is safe: the list's text ends inside the buffer.
-- Assumes nothing.
use Rattle.std.proofs.Common.{sym, arith, length-take-le}
use Rattle.text.specs.TextLaws.{puts_inside}
use Rattle.list_cases.proofs.report.one_line.Goals as goal

pub slice_bounds-text-end : goal.slice_bounds-text-end
slice_bounds-text-end g c = puts_inside _ _ _ _ _ c.put_list-end.ensures (omega arith)

pub slice_bounds-say_line-end : goal.slice_bounds-say_line-end
slice_bounds-say_line-end g c = sym (length-take-le _ _ (puts_inside _ _ _ _ _ c.put_list-end.ensures (omega arith)))
