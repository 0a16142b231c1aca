-- Numbers: "Numbers are decimal unless said to be hex; hex is in capitals in output, either case in input; leading zeros are
-- allowed." b is an ASCII code, w the codes of a word.
-- Assumes nothing.
use Rattle.std.specs.Prelude.{Bool, cond, ◌&&◌, List, [], ◌∷◌, ℕ, ◌+◌, ◌-◌, ◌*◌, ltb, leb, length, Option, None, Some, unwrap_or}
use Rattle.std.specs.List.{list_all}

-- the value of a digit, 0 to 9, A to F, a to f
unfoldable pub digit_of : ℕ → Option ℕ
digit_of b =
    cond (leb 0x30 b && leb b 0x39) (Some (b - 0x30))
    (cond (leb 0x41 b && leb b 0x46) (Some (b - 0x41 + 10))
    (cond (leb 0x61 b && leb b 0x66) (Some (b - 0x61 + 10)) None))

-- the same with 16 where the code is no digit
abbrev pub digit_value : ℕ → ℕ
digit_value b = unwrap_or (digit_of b) 16

-- whether a code is a digit of the base
abbrev pub is_digit : ℕ → ℕ → Bool
is_digit base b = ltb (digit_value b) base

-- every code is a digit of the base
abbrev pub all_digits : ℕ → List ℕ → Bool
all_digits base w = list_all (is_digit base) w

-- what the digits say, the most significant first, behind digits that say v
unfoldable pub value_from : ℕ → ℕ → List ℕ → ℕ
value_from base v [] = v
value_from base v (b ∷ w) = value_from base (base * v + digit_value b) w

-- digits of the base, one or more and at most so many, "leading zeros are allowed", that say no more than `most`
unfoldable pub is_numeral : ℕ → ℕ → ℕ → List ℕ → Bool
is_numeral base digits most w = ltb 0 (length w) && (leb (length w) digits && (all_digits base w && leb (value_from base 0 w) most))

-- the number that a word of such digits says
unfoldable pub numeral_of : ℕ → ℕ → ℕ → List ℕ → Option ℕ
numeral_of base digits most w = cond (is_numeral base digits most w) (Some (value_from base 0 w)) None
