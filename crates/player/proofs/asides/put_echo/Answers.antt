-- `player::asides::put_echo` meets its contract.
-- Assumes nothing.
use mathlib.Core.Path.{sym}
use lib.Seq.{length-take-le}
use Rattle.player.proofs.Steps.{echo_line_lem}
use Rattle.player.proofs.asides.put_echo.Goals as goal

pub slice_bounds-put_echo-end : goal.slice_bounds-put_echo-end
slice_bounds-put_echo-end c = sym (length-take-le _ _ c.echoed.ensures.0)

pub returns : goal.returns
returns c = echo_line_lem _ _ _ _ _ _ c.is_silent.ensures _ _ _ c.if-is_silent.false c.if-not-echo.false c.echoed.ensures.1 c.put_echo.ensures
