-- `listing::put_refusal` meets its contract.
-- Assumes nothing.
use mathlib.Core.Path.{ap}
use Rattle.text.specs.Text.{decimal_text}
use Rattle.text.specs.TextLaws.{puts_as}
use Rattle.listing.specs.Show.{refusal_text}
use Rattle.listing.proofs.put_refusal.Goals as goal

pub returns : goal.returns
unfolding refusal_text
returns c = puts_as _ _ _ _ _ _ (ap decimal_text c.refusal_number.ensures) c.put_decimal.ensures
