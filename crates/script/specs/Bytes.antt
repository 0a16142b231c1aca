-- Byte strings: "A byte string is pairs of hex digits with no spaces, and `-` is the empty byte string". w is the codes of a word.
-- Assumes nothing.
use Rattle.std.specs.Prelude.{Bool, ◌&&◌, ◌||◌, List, [], ◌∷◌, ℕ, ◌+◌, ◌*◌, ◌%◌, ltb, eqb, length, unwrap_or}
use Rattle.script.specs.Words.{same_text}
use Rattle.script.specs.Numbers.{digit_of, all_digits}

-- "pairs of hex digits with no spaces": one pair or more
unfoldable pub is_pairs : List ℕ → Bool
is_pairs w = ltb 0 (length w) && (eqb (length w % 2) 0 && all_digits 16 w)

-- "and `-` is the empty byte string"
unfoldable pub is_bytes : List ℕ → Bool
is_bytes w = same_text w (0x2D ∷ []) || is_pairs w

-- the byte of two digits
unfoldable pub pair_of : ℕ → ℕ → ℕ
pair_of h l = unwrap_or (digit_of h) 0 * 16 + unwrap_or (digit_of l) 0

-- the bytes of a byte string
unfoldable pub bytes_of : List ℕ → List ℕ
bytes_of [] = []
bytes_of (h ∷ []) = []
bytes_of (h ∷ (l ∷ w)) = pair_of h l ∷ bytes_of w
