-- Each test that fails decides, those before it having passed.
-- Assumes nothing.
use Rattle.std.proofs.Common.{sym, ◌∙◌}
use Rattle.rounds.specs.Dealing.{round_refusal}
use Rattle.rounds.proofs.refusals.refusal.Goals as goal

pub returns-then-not-all_sound : goal.returns-then-not-all_sound
unfolding round_refusal
returns-then-not-all_sound c = rw (sym c.all_sound.ensures ∙ c.if-not-all_sound.true)

pub returns-then-not-in_range : goal.returns-then-not-in_range
unfolding round_refusal
returns-then-not-in_range c =
    rw (
      sym c.all_sound.ensures ∙ c.if-not-all_sound.false,
      sym c.in_range.ensures ∙ c.if-not-in_range.true,
    )

pub returns-then-not-all_placed : goal.returns-then-not-all_placed
unfolding round_refusal
returns-then-not-all_placed c =
    rw (
      sym c.all_sound.ensures ∙ c.if-not-all_sound.false,
      sym c.in_range.ensures ∙ c.if-not-in_range.false,
      sym c.all_placed.ensures ∙ c.if-not-all_placed.true,
    )

pub returns : goal.returns
unfolding round_refusal
returns c =
    rw (
      sym c.all_sound.ensures ∙ c.if-not-all_sound.false,
      sym c.in_range.ensures ∙ c.if-not-in_range.false,
      sym c.all_placed.ensures ∙ c.if-not-all_placed.false,
    )
