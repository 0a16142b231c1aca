-- `script::lines::row_of` meets its contract.
-- Assumes nothing.
use Rattle.std.proofs.Common.{refl, rules, tests}
use Rattle.std.specs.Prelude.{bytes_eq}
use Rattle.std.proofs.lemmas.Iterator.{YieldsList-from_slice}
use Rattle.std.proofs.lemmas.Iterator.Search.{position_from_yields_List}
use Rattle.script.specs.declared.lines.Form.{Form}
use Rattle.script.proofs.Judging.{place_by}
use Rattle.script.proofs.lines.row_of.Goals as goal

pub returns : goal.returns
returns c =
    place_by (λ (x : Form). x.0.now) c.args.word.now c.args.lines.now _ _ refl
    (position_from_yields_List (λ (x : Form). bytes_eq c.args.word.now x.0.now) _ _ _ c.position.ensures.ran (YieldsList-from_slice c.args.lines.now (cc)) (λ x b q k. search (rules, tests)))
