-- `script::lines::number_kind` meets its contract.
-- Assumes nothing.
use Rattle.std.proofs.Common.{List, ap, ◌∙◌, eqb, rules, tests, refl}
use Rattle.std.proofs.lemmas.Iterator.{YieldsList-from_slice}
use Rattle.std.proofs.lemmas.Iterator.Search.{find_from_yields_List}
use Rattle.script.specs.declared.lines.NumberKind.{NumberKind}
use Rattle.script.specs.Lines.{number_kinds, kind_among}
use Rattle.script.proofs.Judging.{kind_found}
use Rattle.script.proofs.lines.number_kind.Goals as goal

pub returns : goal.returns
unfolding number_kinds
returns c =
    kind_found _ _ _ _ c.copied.ensures
    (find_from_yields_List (λ (x : NumberKind). eqb x.letter c.args.letter) _ _ _ c.find.ensures.ran (YieldsList-from_slice c.iter.result.rest.now refl) (λ x b q k. search (rules, tests)))
    ∙ ap (λ (xs : List NumberKind). kind_among xs c.args.letter) c.iter.ensures.rest
