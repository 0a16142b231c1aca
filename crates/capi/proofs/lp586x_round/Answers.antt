-- `capi::lp586x_round` meets its contract.
-- Assumes nothing.
use mathlib.Core.Path.{refl, sym, ◌∙◌}
use Rattle.capi.specs.Capi.{round_answer_by, value_after}
use Rattle.capi.specs.CapiLaws.{round_size_lem}
use Rattle.capi.proofs.FourRecords.{round_within, round_called}
use Rattle.capi.proofs.lp586x_round.Goals as goal

pub returns-then-not-sized : goal.returns-then-not-sized
unfolding round_answer_by value_after
returns-then-not-sized c = rw (sym c.sized.ensures ∙ c.if-not-sized.true) (record { value = c.wrong_size.ensures; bytes_after = refl; buffer_after = refl; n_after = refl; t_after = refl })

pub round-answer-requires : goal.round-answer-requires
round-answer-requires c = round_size_lem _ _ (sym c.sized.ensures ∙ c.if-not-sized.false)

pub count-requires : goal.count-requires
count-requires c = round_within _ _ _ _ _ c.round-answer.ensures.value

pub shape_of-bytes : goal.shape_of-bytes
shape_of-bytes c = c.round-answer.auto.bytes

pub shape_of-buffer : goal.shape_of-buffer
shape_of-buffer c = c.round-answer.auto.buffer

pub returns : goal.returns
returns c =
    let x =
    round_called c.args.bytes.now c.args.present (sym c.sized.ensures ∙ c.if-not-sized.false) _ c.present_by-marks.ensures c.args.limit c.args.buffer.now _ _ _ (c.round-answer.ensures.value, (c.round-answer.ensures.bytes_after, c.round-answer.ensures.buffer_after)) in
    rw x.0 (record { value = c.count.ensures.value; bytes_after = x.1.0; buffer_after = x.1.1; n_after = c.count.ensures.n_after; t_after = c.count.ensures.t_after })
