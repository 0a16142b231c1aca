-- `text::put_text` meets its contract.
-- Assumes nothing.
use Rattle.std.proofs.Common.{[], ◌∷◌}
use Rattle.text.proofs.Steps.{text_all}
use Rattle.text.proofs.put_text.Goals as goal

pub returns : goal.returns
returns c = text_all _ _ _ _ _ (c.put_each.ensures (λ v. v ∷ []) (λ old at byte r new p. p))
