-- `text::put_bytes` meets its contract.
-- Assumes nothing.
use Rattle.std.proofs.Common.{rules}
use Rattle.text.specs.Text.{byte_text}
use Rattle.text.proofs.Steps.{bytes_none, bytes_some}
use Rattle.text.proofs.put_bytes.Goals as goal

pub returns-then-is_empty : goal.returns-then-is_empty
returns-then-is_empty c = bytes_none _ _ _ _ _ (search rules) c.put.ensures

pub returns : goal.returns
returns c = bytes_some _ _ _ _ _ (search rules) (c.put_each.ensures byte_text (λ old at byte r new p. p))
