-- Each place gets its part within its first portion and what is left, and the rest goes on.
-- Assumes nothing.
use Rattle.std.proofs.Common.{ℕ, ◌≡◌, get_or, sym, ap, ◌∙◌, subst, sum, ◌≤◌, arith, refl}
use Rattle.plan.specs.Portion.{portion}
use Rattle.burst.specs.Burst.{bus_bytes}
use Rattle.rounds.specs.Round.{present_at, share_of, waiting}
use Rattle.rounds.specs.Dealing.{records_of}
use Rattle.rounds.proofs.AtPlaces.{waits_at, sized_at}
use Rattle.rounds.proofs.Shares.{first_at, firsts_fit, dealing_start, dealing_room, dealing_more, dealing_done}
use Rattle.rounds.proofs.dealing.deal.Goals as goal

pub left_over-left-requires : goal.left_over-left-requires
left_over-left-requires c = rw c.requires.firsts (firsts_fit (present_at c.args.present) (records_of c.args.records.now) c.args.limit)

pub size_at-size-requires-clause-lent : goal.size_at-size-requires-clause-lent
size_at-size-requires-clause-lent c = waits_at c.args.present c.args.records.now c.told-records c.loop-place.place _ c.loop-place-test.true c.requires.sound

pub loop-place-preserved : goal.loop-place-preserved
loop-place-preserved c =
    let place : ℕ = c.loop-place.place in
    let first = ap (λ firsts. get_or firsts place 0) c.requires.firsts ∙ first_at (present_at c.args.present) (records_of c.args.records.now) (share_of c.args.limit) place c.loop-place-test.true in
    dealing_more _ _ _ _ _ _ _ c.loop-place.invariant c.loop-place-test.true _ _ _ first
    (sized_at c.args.present c.args.records.now c.told-records place _ c.loop-place-test.true _ _ _ c.size_at-size.ensures.0) c.size_at-size.ensures.1 c.size_at-size.ensures.2

pub returns : goal.returns
returns c = dealing_done _ _ _ _ _ _ _ (omega arith) c.loop-place.invariant
