-- `update::lists::update_parts` meets its contract.
-- Assumes nothing.
use native.Mathlib.Omega.{arith}
use Rattle.host.proofs.SoundLaws.{sound_is}
use Rattle.std.proofs.lemmas.Result.{err_from_is_err_and}
use Rattle.writes.specs.WholeLaws.{sound_whole}
use Rattle.update.proofs.Fixed.{sound_told}
use Rattle.update.proofs.WholeList.{parts_unsound, parts_short, parts_listed}
use Rattle.update.proofs.lists.update_parts.Goals as goal

pub returns-in_err-sound_answer : goal.returns-in_err-sound_answer
returns-in_err-sound_answer c =
    let p = err_from_is_err_and c.from_residual.result c.from_residual.ensures.1 in
    let q = parts_unsound _ c.args.buffer.now _ c.in_err-sound_answer.ensures in
    rw (p.1, p.2) (record { value = q.0; buffer_after = q.1 })

pub list_sizes-size-requires : goal.list_sizes-size-requires
list_sizes-size-requires c = sound_whole _ (sound_is _ (sound_told _ c.in_ok-sound_answer.ensures))

pub returns-then-buffer-needed : goal.returns-then-buffer-needed
returns-then-buffer-needed c =
    let p = parts_short _ _ _ _ _ (sound_told _ c.in_ok-sound_answer.ensures) c.list_sizes-size.ensures c.if-buffer-needed.true in record { value = p.0; buffer_after = p.1 }

pub put_list-requires : goal.put_list-requires
put_list-requires c = (sound_whole _ (sound_is _ (sound_told _ c.in_ok-sound_answer.ensures)), c.list_sizes-size.ensures)

pub returns : goal.returns
returns c =
    let p = parts_listed _ _ _ _ _ (sound_told _ c.in_ok-sound_answer.ensures) c.list_sizes-size.ensures _ (omega (arith, c.if-buffer-needed.false)) c.put_list.ensures in
    record { value = p.0; buffer_after = p.1 }
