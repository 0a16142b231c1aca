-- The words of a line: "Words are separated by single spaces". A line is a list of ASCII codes, l; a space is 20h.
-- Assumes nothing.
use Rattle.std.specs.Prelude.{Bool, true, false, List, [], ◌∷◌, ℕ, zero, suc, ◌+◌, eqb, take, drop, count_by, bytes_eq}
use Prim.Native.Char.{code}
use Prim.Native.String.{String, [] as none, ◌∷◌ as ◌then◌}

-- the ASCII codes of a text
unfoldable pub codes : String → List ℕ
codes none = []
codes (c then s) = code c ∷ codes s

-- how many codes stand before the first that is the mark
unfoldable pub length_to : ℕ → List ℕ → ℕ
length_to mark [] = 0
length_to mark (b ∷ l) = elim (eqb b mark) [ true ↦ 0 | false ↦ suc (length_to mark l) ]

-- the word before the first space
unfoldable pub first_word : List ℕ → List ℕ
first_word l = take (length_to 0x20 l) l

-- what stands behind the first space
unfoldable pub behind : List ℕ → List ℕ
behind l = drop (suc (length_to 0x20 l)) l

-- word n, counted from 0; empty where there is none
unfoldable pub word_at : List ℕ → ℕ → List ℕ
word_at l zero = first_word l
word_at l (suc n) = word_at (behind l) n

-- one word more than spaces
abbrev pub word_count : List ℕ → ℕ
word_count l = 1 + count_by (λ b. eqb b 0x20) l

-- two texts that are one
abbrev pub same_text : List ℕ → List ℕ → Bool
same_text x y = bytes_eq x y
