-- One portion more, within the share.
-- Assumes nothing.
use Rattle.std.proofs.Common.{ℕ, ◌<◌, ◌≢◌, length, sym, ◌∙◌, arith, get_or-set_other, get_or-set_same, below_more}
use Rattle.std.proofs.lemmas.List.{length-set}
use Rattle.std.proofs.lemmas.Grind.{same_number_lists}
use Rattle.rounds.specs.Round.{present_at}
use Rattle.rounds.specs.Dealing.{records_of, first_bytes}
use Rattle.rounds.proofs.AtPlaces.{waits_at, sized_at}
use Rattle.rounds.proofs.Shares.{first_at}
use Rattle.rounds.proofs.dealing.first_sizes.Goals as goal

pub size_at-requires-clause-lent : goal.size_at-requires-clause-lent
size_at-requires-clause-lent c = waits_at c.args.present c.args.records.now c.told-records c.loop-place.place _ c.loop-place-test.true c.requires.sound

pub loop-place-preserved : goal.loop-place-preserved
loop-place-preserved c =
    let place : ℕ = c.loop-place.place in
    let lt : place < length c.loop-place.firsts = omega arith in
    let is = sized_at c.args.present c.args.records.now c.told-records place _ c.loop-place-test.true _ _ _ c.size_at.ensures.0 in (
      length-set c.loop-place.firsts place _ ∙ c.loop-place.invariant.0,
      below_more _ _ (λ k h. let ne : k ≢ place = omega arith in rw get_or-set_other (c.loop-place.invariant.1 k h))
          (rw get_or-set_same (is.bytes_are ∙ sym (first_at (present_at c.args.present) (records_of c.args.records.now) c.args.share place c.loop-place-test.true))),
    )

pub returns : goal.returns
returns c =
    same_number_lists _ (first_bytes c.args.share (present_at c.args.present) (records_of c.args.records.now)) c.loop-place.invariant.0
    (λ k h. c.loop-place.invariant.1 k (omega arith))
