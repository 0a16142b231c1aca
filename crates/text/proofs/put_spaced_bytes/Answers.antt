-- `text::put_spaced_bytes` meets its contract.
-- Assumes nothing.
use Rattle.text.specs.Text.{spaced_text, spaced_bytes_text}
use Rattle.text.proofs.put_spaced_bytes.Goals as goal

pub returns : goal.returns
unfolding spaced_bytes_text
returns c = c.put_each.ensures spaced_text (λ old at byte r new p. p)
