-- The part of one place behind those before it.
-- Assumes nothing.
use Rattle.std.proofs.Common.{Bool, false, ℕ, ◌<◌, get_or, length, sym, ap, subst, arith}
use Rattle.host.specs.declared.Record.{Record}
use Rattle.rounds.specs.Round.{present_at}
use Rattle.rounds.specs.Dealing.{records_of, waiting_of, image_at}
use Rattle.rounds.proofs.AtPlaces.{lent_at, mark_at, waits_at, free_at}
use Rattle.rounds.proofs.Joining.{Puts, putting_room, putting_more, putting_done}
use Rattle.rounds.proofs.writing.put_round.Goals as goal

pub put_at-next-requires-clause-lent : goal.put_at-next-requires-clause-lent
put_at-next-requires-clause-lent c = waits_at c.args.present c.args.records.now c.told-records c.loop-place.place _ c.loop-place-test.true c.requires.sound

pub put_at-next-requires-clause-near : goal.put_at-next-requires-clause-near
put_at-next-requires-clause-near c = (putting_room _ _ _ _ c.requires.dealt _ _ _ _ _ _ _ c.loop-place.invariant c.loop-place-test.true c.requires.limited).1

pub put_at-next-requires-clause-free : goal.put_at-next-requires-clause-free
put_at-next-requires-clause-free c =
    let room = putting_room _ _ _ _ c.requires.dealt _ _ _ _ _ _ _ c.loop-place.invariant c.loop-place-test.true c.requires.limited in
    free_at c.args.present c.args.records.now c.told-records c.loop-place.place _ c.loop-place-test.true _ _ _ room.3

pub overflow_add-at-in-loop-place : goal.overflow_add-at-in-loop-place
overflow_add-at-in-loop-place c =
    let room = putting_room _ _ _ _ c.requires.dealt _ _ _ _ _ _ _ c.loop-place.invariant c.loop-place-test.true c.requires.limited in
    omega (arith, room.2)

pub loop-place-preserved : goal.loop-place-preserved
loop-place-preserved c =
    let place : ℕ = c.loop-place.place in
    let mark = sym (mark_at c.args.present place c.loop-place-test.true) in
    let puts = subst (λ (b : Bool). Puts b (records_of c.args.records.now place) c.loop-place.next c.loop-place.at (get_or c.args.dealt.bytes place 0)
    c.put_at-next.result c.loop-place.buffer c.put_at-next.new.buffer (image_at c.loop-place.images place) c.put_at-next.new.image) mark
    (subst (λ (r : Record). Puts (get_or c.args.present place false) r c.loop-place.next c.loop-place.at (get_or c.args.dealt.bytes place 0)
    c.put_at-next.result c.loop-place.buffer c.put_at-next.new.buffer (image_at c.loop-place.images place) c.put_at-next.new.image)
    (sym (lent_at c.args.records.now place _ (omega (arith, c.told-records)) c.loop-place-test.true))
    (record { value = c.put_at-next.ensures.value; buffer_after = c.put_at-next.ensures.buffer_after; image_after = c.put_at-next.ensures.image_after })) in
    putting_more _ _ _ _ c.requires.dealt _ _ _ _ _ _ _ c.loop-place.invariant c.loop-place-test.true c.requires.placed _ _ _ puts

pub returns : goal.returns
returns c = putting_done _ _ _ _ c.requires.dealt _ _ _ _ _ _ _ (omega arith) c.loop-place.invariant
