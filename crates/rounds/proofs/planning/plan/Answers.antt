-- What refuses the round refuses the list; else the list decides.
-- Assumes nothing.
use Rattle.std.proofs.Common.{sym, arith}
use Rattle.std.proofs.lemmas.Result.{err_from_is_err_and}
use Rattle.rounds.specs.Round.{present_at}
use Rattle.rounds.specs.Dealing.{records_of}
use Rattle.rounds.proofs.Accepting.{refused_answer, accepted_waits, short_answer, listed_plan}
use Rattle.rounds.proofs.planning.plan.Goals as goal

pub returns-in_err-refusal : goal.returns-in_err-refusal
returns-in_err-refusal c =
    let p = err_from_is_err_and c.from_residual.result c.from_residual.ensures.1 in
    rw (p.1, p.2) (refused_answer (present_at c.args.present) (records_of c.args.records.now) c.args.limit _ c.args.size (sym c.in_err-refusal.ensures))

pub deal_out-dealt-requires-clause-sound : goal.deal_out-dealt-requires-clause-sound
deal_out-dealt-requires-clause-sound c =
    (accepted_waits (present_at c.args.present) (records_of c.args.records.now) c.args.limit _ (sym c.in_ok-refusal.ensures)).0

pub deal_out-dealt-requires-clause-limited : goal.deal_out-dealt-requires-clause-limited
deal_out-dealt-requires-clause-limited c =
    (accepted_waits (present_at c.args.present) (records_of c.args.records.now) c.args.limit _ (sym c.in_ok-refusal.ensures)).2

pub total-requires : goal.total-requires
total-requires c =
    let w = accepted_waits (present_at c.args.present) (records_of c.args.records.now) c.args.limit _ (sym c.in_ok-refusal.ensures) in
    omega (arith, c.deal_out-dealt.ensures.most, w.2)

pub overflow_add-dealt-2 : goal.overflow_add-dealt-2
overflow_add-dealt-2 c =
    let w = accepted_waits (present_at c.args.present) (records_of c.args.records.now) c.args.limit _ (sym c.in_ok-refusal.ensures) in
    omega (arith, c.deal_out-dealt.ensures.most, c.deal_out-dealt.ensures.few, w.2, c.total.ensures)

pub returns-then-size-dealt : goal.returns-then-size-dealt
returns-then-size-dealt c =
    short_answer (present_at c.args.present) (records_of c.args.records.now) c.args.limit _ c.deal_out-dealt.ensures c.args.size _ (sym c.in_ok-refusal.ensures)
    (omega (arith, c.if-size-dealt.true, c.total.ensures))

pub returns : goal.returns
returns c =
    listed_plan (present_at c.args.present) (records_of c.args.records.now) c.args.limit _ c.deal_out-dealt.ensures c.args.size _ (sym c.in_ok-refusal.ensures)
    (omega (arith, c.if-size-dealt.false, c.total.ensures))
