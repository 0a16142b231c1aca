-- `text::put_decimal` meets its contract. The measure of its call of itself is the value.
-- Assumes nothing.
use Rattle.text.proofs.Steps.{decimal_digit_put, decimal_put}
use Rattle.text.proofs.+put_decimal.Goals as goal

pub returns-then-value-lt10 : goal.returns-then-value-lt10
returns-then-value-lt10 t c = decimal_digit_put _ _ _ _ _ _ c.if-value-lt10.true c.digit_of.ensures c.put.ensures

pub returns : goal.returns
returns t c =
    decimal_put _ _ _ _ _ _ _ _ c.if-value-lt10.false c.put_decimal-next.ensures c.digit_of-2.ensures c.put-2.ensures
