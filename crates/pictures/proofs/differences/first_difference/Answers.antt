-- `pictures::differences::first_difference` meets its contract.
-- Assumes nothing.
use Rattle.std.proofs.Common.{◌≡◌, true, false, rules}
use Rattle.std.proofs.lemmas.Iterator.{first_from_Range}
use Rattle.pictures.specs.Pictures.{differs}
use Rattle.pictures.proofs.Steps.{first_found}
use Rattle.pictures.proofs.differences.first_difference.Goals as goal

pub returns : goal.returns
returns c =
    let d = differs c.args.member c.args.held.now c.args.asked.now in
    first_found _ _ _ _
    (first_from_Range _ _ _ c.find.result (λ k. d k ≡ true) (λ k. d k ≡ false) c.find.ensures.ran (λ x q e. search rules) (λ x q e. (search rules, search rules)))
