-- Numbers and byte strings and their texts, computed; and a text that has no room in full.
-- Assumes nothing.
use Rattle.std.specs.Prelude.{◌≡◌, refl, [], ◌∷◌}
use Rattle.text.specs.Text.{next_place, placed, place_after, digit, byte_text, address_text, decimal_up_to, decimal_text, each_text, spaced_text, spaced_bytes_text, bytes_text}

-- `A5`
byte : byte_text 0xA5 ≡ 0x41 ∷ 0x35 ∷ []
unfolding byte_text digit
byte = refl

-- `3FF`, and the last three digits of 1234h
address : address_text 0x3FF ≡ 0x33 ∷ 0x46 ∷ 0x46 ∷ []
unfolding address_text byte_text digit
address = refl

address_last : address_text 0x1234 ≡ 0x32 ∷ 0x33 ∷ 0x34 ∷ []
unfolding address_text byte_text digit
address_last = refl

-- `0`, `10` and the largest number of 64 bits, 18446744073709551615
zero_is : decimal_text 0 ≡ 0x30 ∷ []
unfolding decimal_text decimal_up_to digit
zero_is = refl

ten : decimal_text 10 ≡ 0x31 ∷ 0x30 ∷ []
unfolding decimal_text decimal_up_to digit
ten = refl

largest : decimal_text 18446744073709551615
    ≡ 0x31 ∷ 0x38 ∷ 0x34 ∷ 0x34 ∷ 0x36 ∷ 0x37 ∷ 0x34 ∷ 0x34 ∷ 0x30 ∷ 0x37
    ∷ 0x33 ∷ 0x37 ∷ 0x30 ∷ 0x39 ∷ 0x35 ∷ 0x35 ∷ 0x31 ∷ 0x36 ∷ 0x31 ∷ 0x35 ∷ []
unfolding decimal_text decimal_up_to digit
largest = refl

-- `-`, `A50F` and ` A5 0F`
no_bytes : bytes_text [] ≡ 0x2D ∷ []
unfolding bytes_text
no_bytes = refl

two_bytes : bytes_text (0xA5 ∷ 0x0F ∷ []) ≡ 0x41 ∷ 0x35 ∷ 0x30 ∷ 0x46 ∷ []
unfolding bytes_text each_text byte_text digit
two_bytes = refl

two_spaced : spaced_bytes_text (0xA5 ∷ 0x0F ∷ []) ≡ 0x20 ∷ 0x41 ∷ 0x35 ∷ 0x20 ∷ 0x30 ∷ 0x46 ∷ []
unfolding spaced_bytes_text each_text spaced_text byte_text digit
two_spaced = refl

-- three bytes at place 1 of a buffer of three: two are put, and the place behind them is its end
cut : placed (1 ∷ 2 ∷ 3 ∷ []) 1 (7 ∷ 8 ∷ 9 ∷ []) ≡ 1 ∷ 7 ∷ 8 ∷ []
unfolding placed next_place
cut = refl

cut_end : place_after 3 1 (7 ∷ 8 ∷ 9 ∷ []) ≡ 3
unfolding place_after next_place
cut_end = refl
