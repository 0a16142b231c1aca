-- `chip::feed_registers` meets its contract.
-- Assumes nothing.
use Rattle.std.proofs.Common.{ap, not}
use Rattle.std.proofs.lemmas.Option.{MatchOption-at_some}
use Rattle.std.proofs.lemmas.Result.{err_from_is_err_and}
use Rattle.chip.proofs.Steps.{feeds_unsound, feeds_bad, feeds_all, sound_size, good_rest}
use Rattle.chip.proofs.feed_registers.Goals as goal

pub returns-then-not-sound : goal.returns-then-not-sound
returns-then-not-sound c = let p = feeds_unsound _ _ _ c.sound.ensures (ap not c.if-not-sound.true) in record { answers = p.0; stores = p.1 }

pub returns-in_err-n : goal.returns-in_err-n
returns-in_err-n c =
    let p = err_from_is_err_and c.from_residual.result c.from_residual.ensures.1 in
    let f = feeds_bad _ _ _ c.sound.ensures (ap not c.if-not-sound.false) _ c.read_sizes.ensures _ c.in_err-n.ensures.value in
    record { answers = rw (p.1, p.2) f.0; stores = f.1 }

pub unwrap-registers-requires : goal.unwrap-registers-requires
unwrap-registers-requires c = c.as_mut_array.ensures.variant.1 (sound_size _ _ c.sound.ensures (ap not c.if-not-sound.false))

pub apply_all-requires : goal.apply_all-requires
apply_all-requires c = good_rest _ _ _ c.sound.ensures (ap not c.if-not-sound.false) _ c.read_sizes.ensures _ c.in_ok-n.ensures.value

pub returns : goal.returns
returns c =
    let whole = MatchOption-at_some _ _ _ c.unwrap-registers.ensures c.as_mut_array.ensures.cases in
    let p = feeds_all _ _ _ c.sound.ensures (ap not c.if-not-sound.false) _ c.read_sizes.ensures _ c.in_ok-n.ensures.value _
    (rw whole.same at c.apply_all.ensures) in
    record { answers = p.0; stores = p.1 }
