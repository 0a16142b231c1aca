-- The place of a word among others.
-- Assumes nothing.
use Rattle.std.specs.Prelude.{List, ℕ, Option, position}
use Rattle.script.specs.Words.{same_text}

-- the place of the first of these texts that is the word, counted from 0, where one is
abbrev pub place_of : List ℕ → List (List ℕ) → Option ℕ
place_of w names = position (λ x. same_text w x) names
