-- `dots::put_word` meets its contract.
-- Assumes nothing.
use mathlib.Core.Path.{sym, ◌∙◌}
use native.Mathlib.Omega.{arith}
use lib.ListN.{set, length-set}
use lib.Seq.{set_out}
use Rattle.dots.proofs.put_word.Goals as goal

pub returns : goal.returns
returns c = c.put_byte.ensures ∙ sym (set_out (set c.args.image.now c.args.at c.args.low) _ _ (simp length-set (omega arith)))
