-- `script::lines::named` meets its contract.
-- Assumes nothing.
use Rattle.std.proofs.Common.{ℕ, List, refl, rules, tests}
use Rattle.std.specs.Prelude.{bytes_eq}
use Rattle.std.proofs.lemmas.Iterator.{YieldsList-from_slice}
use Rattle.std.proofs.lemmas.Iterator.Search.{position_from_yields_List}
use denote.Ref.{Bor}
use Rattle.script.proofs.Judging.{place_by}
use Rattle.script.proofs.lines.named.Goals as goal

pub returns : goal.returns
returns c =
    place_by (λ (x : Bor (List ℕ)). x.now) c.args.word.now c.args.names.now _ _ refl
    (position_from_yields_List (λ (x : Bor (List ℕ)). bytes_eq c.args.word.now x.now) _ _ _ c.position.ensures.ran (YieldsList-from_slice c.args.names.now (cc)) (λ x b q k. search (rules, tests)))
