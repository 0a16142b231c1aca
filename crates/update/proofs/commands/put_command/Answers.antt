-- `update::commands::put_command` meets its contract.
-- Assumes nothing.
use Rattle.std.proofs.lemmas.Result.{err_from_is_err_and}
use Rattle.update.proofs.Fixed.{command_unsound, command_short, i2c_put, spi_put}
use Rattle.update.proofs.commands.put_command.Goals as goal
use Rattle.update.proofs.commands.put_command.Goals.{then-r-eq0, else-r-eq0}

pub returns-in_err-sound_answer : goal.returns-in_err-sound_answer
returns-in_err-sound_answer c =
    let p = err_from_is_err_and c.from_residual.result c.from_residual.ensures.1 in
    rw (p.1, p.2) (command_unsound _ _ _ _ _ c.in_err-sound_answer.ensures)

pub returns-then-buffer-size : goal.returns-then-buffer-size
returns-then-buffer-size c = rw c.into.ensures (command_short _ _ _ _ c.in_ok-sound_answer.ensures c.if-buffer-size.true)

pub returns : goal.returns
returns c =
    elim c.if-r-eq0.branch [
      | then-r-eq0 w ↦ rw (w.buffer-is, w.copy_from_slice.ensures.after) (i2c_put _ _ _ _ c.in_ok-sound_answer.ensures c.if-buffer-size.false w.if-r-eq0.true)
      | else-r-eq0 w ↦
          rw (w.buffer-is, w.copy_from_slice-else-r-eq0.ensures.after) (spi_put _ _ _ _ c.in_ok-sound_answer.ensures c.if-buffer-size.false w.if-r-eq0.false c.requires.1)
    ]
