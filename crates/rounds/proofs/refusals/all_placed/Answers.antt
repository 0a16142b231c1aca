-- A place whose record does not stand there fails the test of all; where each one stands there, all do.
-- Assumes nothing.
use Rattle.std.proofs.Common.{Bool, ℕ, ◌<◌, length, sym, ap₂, ◌∙◌, arith}
use Rattle.host.specs.declared.Record.{Record}
use Rattle.rounds.specs.Round.{present_at, present_placed}
use Rattle.rounds.specs.Dealing.{records_of, header_placed}
use Rattle.rounds.proofs.DealLaws.{every_true, every_false}
use Rattle.rounds.proofs.AtPlaces.{lent_at, mark_at}
use Rattle.rounds.proofs.refusals.all_placed.Goals as goal

pub returns-then-not-placed_at : goal.returns-then-not-placed_at
returns-then-not-placed_at c =
    let k : ℕ = c.loop-place.place in
    let h : k < length c.args.records.now = omega arith in
    sym (every_false (present_placed (present_at c.args.present) (records_of c.args.records.now)) k (omega arith)
    (ap₂ (λ (b : Bool) (r : Record). header_placed b r.header k) (mark_at c.args.present k (omega arith)) (lent_at c.args.records.now k _ h (omega arith)) ∙ sym c.placed_at.ensures ∙ c.if-not-placed_at.true))

pub returns : goal.returns
returns c = sym (every_true (present_placed (present_at c.args.present) (records_of c.args.records.now)) (λ k h. c.loop-place.invariant k (omega arith)))
