-- `script::numbers::read` meets its contract.
-- Assumes nothing.
use Rattle.std.proofs.Common.{◌≡◌, ◌∙◌, ◌+◌, ◌*◌, ℕ, Option, ap, sym, rules, arith}
use Rattle.std.specs.Prelude.{unwrap_or}
use Rattle.std.proofs.lemmas.Grind.{common_steps}
use Rattle.script.proofs.Reading.{rest_first, read_empty, read_many, read_wrong, read_more, read_large, read_all}
use Rattle.script.proofs.numbers.read.Goals as goal
use Rattle.script.proofs.numbers.read.Goals.{then-is_empty-via-then-is_empty, then-is_empty-via-else-is_empty+then-digits-word}

pub returns-then-is_empty : goal.returns-then-is_empty
returns-then-is_empty c = elim c.then-is_empty.branch [
  | then-is_empty-via-then-is_empty w ↦ read_empty _ _ _ _ (search rules)
  | then-is_empty-via-else-is_empty+then-digits-word w ↦ read_many _ _ _ _ w.if-digits-word.true
]

pub loop-byte-init : goal.loop-byte-init
loop-byte-init c = (omega arith, rest_first _ _ _ _ (search rules) c.if-digits-word.false)

pub returns-then-base-next : goal.returns-then-base-next
returns-then-base-next c = read_wrong _ _ _ _ _ _ c.loop-byte-test.true c.loop-byte.invariant.1 _ (c.unwrap_or-next.ensures ∙ ap (λ (o : Option ℕ). unwrap_or o 16) c.digit.ensures) c.if-base-next.true

pub returns-in_err-checked_mul : goal.returns-in_err-checked_mul
returns-in_err-checked_mul c =
    c.from_residual.ensures
    ∙ read_large _ _ _ _ _ _ c.loop-byte-test.true c.loop-byte.invariant.1 _ (c.unwrap_or-next.ensures ∙ ap (λ (o : Option ℕ). unwrap_or o 16) c.digit.ensures) c.if-base-next.false (grind (arith, common_steps))

pub returns-in_err-value : goal.returns-in_err-value
returns-in_err-value c =
    c.from_residual-in_err-value.ensures
    ∙ read_large _ _ _ _ _ _ c.loop-byte-test.true c.loop-byte.invariant.1 _ (c.unwrap_or-next.ensures ∙ ap (λ (o : Option ℕ). unwrap_or o 16) c.digit.ensures) c.if-base-next.false (grind (arith, common_steps))

pub returns-then-most-value : goal.returns-then-most-value
returns-then-most-value c = read_large _ _ _ _ _ _ c.loop-byte-test.true c.loop-byte.invariant.1 _ (c.unwrap_or-next.ensures ∙ ap (λ (o : Option ℕ). unwrap_or o 16) c.digit.ensures) c.if-base-next.false (grind (arith, common_steps))

pub loop-byte-preserved : goal.loop-byte-preserved
loop-byte-preserved c =
    let value : c.in_ok-value.value ≡ c.args.base * c.loop-byte.value + c.unwrap_or-next.result = grind (arith, common_steps) in
    (c.if-most-value.false, rw value (read_more _ _ _ _ _ _ c.loop-byte-test.true c.loop-byte.invariant.1 _ (c.unwrap_or-next.ensures ∙ ap (λ (o : Option ℕ). unwrap_or o 16) c.digit.ensures) c.if-base-next.false))

pub returns : goal.returns
returns c = read_all _ _ _ _ _ _ c.loop-byte-test.false c.loop-byte.invariant.0 c.loop-byte.invariant.1
