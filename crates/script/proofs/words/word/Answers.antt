-- `script::words::word` meets its contract.
-- Assumes nothing.
use Rattle.std.proofs.Common.{eqb, rules, tests, refl}
use Rattle.std.proofs.lemmas.Iterator.Consumers.{nth_from_yields_List}
use Rattle.std.proofs.lemmas.Iterator.Splits.{YieldsList-from_slice_split}
use Rattle.script.proofs.Reading.{found_word}
use Rattle.script.proofs.words.word.Goals as goal

pub returns : goal.returns
returns c =
    found_word _ _ _ _ _ c.unwrap_or.ensures refl
    (nth_from_yields_List _ _ _ c.nth.ensures.ran
    (YieldsList-from_slice_split _ (λ b. eqb b 32) c.args.line.now c.split.ensures.rest c.split.ensures.done c.split.ensures.closure (λ x b q k. search (rules, tests))))
