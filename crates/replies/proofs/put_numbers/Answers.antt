-- `replies::put_numbers` meets its contract: what is put is the text of the numbers that are there, and of none behind them.
-- Assumes nothing.
use Rattle.std.proofs.Common.{◌≡◌, refl, ap, ◌∙◌, ℕ, ◌-◌, ◌<◌, ◌≤◌, length, List, [], ◌∷◌, ◌++◌, take, drop, get_or, min, sub-one, arith}
use Rattle.std.proofs.Math.Seq.{take-length}
use Rattle.std.proofs.lemmas.List.{take_min}
use Rattle.map.specs.Refusals.{numbers_in}
use Rattle.text.specs.Text.{placed, place_after, decimal_text, each_text}
use Rattle.text.specs.TextLaws.{puts_then, puts_as}
use Rattle.replies.specs.Replies.{value_text, numbers_text}
use Rattle.replies.proofs.put_numbers.Goals as goal

there : (n count : ℕ) (values : List ℕ) → length values ≡ 5 → n ≡ min count 5 → take n values ≡ take count values
there n count values l e = rw (e, ← l) (take_min count values)

none : (numbers : List ℕ) → length numbers < 1 → numbers_text numbers ≡ []
unfolding numbers_text
none [] h = refl
none (n ∷ values) h = absurd (omega arith)

some : (numbers : List ℕ) → 1 ≤ length numbers →
    decimal_text (get_or numbers 0 0) ++ each_text value_text (take (length numbers - 1) (drop 1 numbers)) ≡ numbers_text numbers
unfolding numbers_text
some [] h = absurd (omega arith)
some (n ∷ values) h = rw sub-one (ap (λ (vs : List ℕ). decimal_text n ++ each_text value_text vs) (take-length values))

pub returns-in-empty : goal.returns-in-empty
unfolding numbers_in placed place_after
returns-in-empty c =
    let are = there c.min.result c.args.numbers.count c.args.numbers.values (omega arith) c.min.ensures in
    rw (← are, none (take c.min.result c.args.numbers.values) c.in-empty.len_below) (record { buffer = refl; place = refl })

pub returns-in-len1-up : goal.returns-in-len1-up
unfolding numbers_in
returns-in-len1-up c =
    let are = there c.min.result c.args.numbers.count c.args.numbers.values (omega arith) c.min.ensures in
    puts_as _ _ _ _ _ _ (some (take c.min.result c.args.numbers.values) c.in-len1-up.len_at_least ∙ ap numbers_text are)
    (puts_then _ _ _ _ _ _ _ _ c.put_decimal-next.ensures (c.put_each.ensures value_text (λ old at v r new p. p)))
