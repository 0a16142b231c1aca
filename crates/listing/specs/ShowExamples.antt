-- Lists and their text, computed. In ASCII 0 to 9 are 30h to 39h, A to F are 41h to 46h, a space is 20h and a line's
-- end 0Ah.
-- Assumes nothing.
use Rattle.std.specs.Prelude.{◌≡◌, refl, List, [], ◌∷◌, ◌++◌, ℕ}
use Rattle.burst.specs.Burst.{byte_at, size16, n_of, t_of, lengths_from, lengths, cut_from, transactions, lengths_good, sizes_good, head_address}
use Rattle.text.specs.Text.{digit, byte_text, address_text, decimal_up_to, decimal_text, each_text, spaced_text, spaced_bytes_text}
use Rattle.listing.specs.Show.{transaction_text, transactions_text, sizes_text, refusal_text, separated_text, list_text, shown}

eleven : List ℕ
eleven = 0x31 ∷ 0x31 ∷ 0x0A ∷ []

-- the bench list
i2c : List ℕ
i2c =
    0x03 ∷ 0x00 ∷ 0x09 ∷ 0x00 ∷ 0x03 ∷ 0x00 ∷ 0x03 ∷ 0x00 ∷ 0x03 ∷ 0x00
    ∷ 0x80 ∷ 0x00 ∷ 0x01 ∷ 0x80 ∷ 0x01 ∷ 0x58 ∷ 0x84 ∷ 0x02 ∷ 0x40 ∷ []

-- the bench list with the SPI transactions of the same update, 00 20 01, 00 60 58 and 80 A0 40
spi : List ℕ
spi =
    0x03 ∷ 0x00 ∷ 0x09 ∷ 0x00 ∷ 0x03 ∷ 0x00 ∷ 0x03 ∷ 0x00 ∷ 0x03 ∷ 0x00
    ∷ 0x00 ∷ 0x20 ∷ 0x01 ∷ 0x00 ∷ 0x60 ∷ 0x58 ∷ 0x80 ∷ 0xA0 ∷ 0x40 ∷ []

-- the bench list prints `3 9`, `000 01`, `001 58`, `202 40`
bench : shown 0 i2c
    ≡ (0x33 ∷ 0x20 ∷ 0x39 ∷ 0x0A ∷ [])
    ++ (0x30 ∷ 0x30 ∷ 0x30 ∷ 0x20 ∷ 0x30 ∷ 0x31 ∷ 0x0A ∷ [])
    ++ (0x30 ∷ 0x30 ∷ 0x31 ∷ 0x20 ∷ 0x35 ∷ 0x38 ∷ 0x0A ∷ [])
    ++ (0x32 ∷ 0x30 ∷ 0x32 ∷ 0x20 ∷ 0x34 ∷ 0x30 ∷ 0x0A ∷ [])
unfolding shown separated_text sizes_text transactions_text transaction_text spaced_bytes_text each_text spaced_text decimal_text decimal_up_to address_text byte_text digit sizes_good lengths_good transactions lengths lengths_from cut_from n_of t_of size16 byte_at head_address i2c
bench = refl

-- and so does the same update's list on SPI
bench_spi : shown 1 spi ≡ shown 0 i2c
unfolding shown separated_text sizes_text transactions_text transaction_text spaced_bytes_text each_text spaced_text decimal_text decimal_up_to address_text byte_text digit sizes_good lengths_good transactions lengths lengths_from cut_from n_of t_of size16 byte_at head_address i2c spi
bench_spi = refl

-- on one line: `3 9 / 000 01 / 001 58 / 202 40`
one_line : list_text 0 i2c
    ≡ (0x33 ∷ 0x20 ∷ 0x39 ∷ [])
    ++ (0x20 ∷ 0x2F ∷ 0x20 ∷ 0x30 ∷ 0x30 ∷ 0x30 ∷ 0x20 ∷ 0x30 ∷ 0x31 ∷ [])
    ++ (0x20 ∷ 0x2F ∷ 0x20 ∷ 0x30 ∷ 0x30 ∷ 0x31 ∷ 0x20 ∷ 0x35 ∷ 0x38 ∷ [])
    ++ (0x20 ∷ 0x2F ∷ 0x20 ∷ 0x32 ∷ 0x30 ∷ 0x32 ∷ 0x20 ∷ 0x34 ∷ 0x30 ∷ [])
unfolding list_text separated_text sizes_text transactions_text transaction_text spaced_bytes_text each_text spaced_text decimal_text decimal_up_to address_text byte_text digit sizes_good lengths_good transactions lengths lengths_from cut_from n_of t_of size16 byte_at head_address i2c
one_line = refl

one_line_spi : list_text 1 spi ≡ list_text 0 i2c
unfolding list_text separated_text sizes_text transactions_text transaction_text spaced_bytes_text each_text spaced_text decimal_text decimal_up_to address_text byte_text digit sizes_good lengths_good transactions lengths lengths_from cut_from n_of t_of size16 byte_at head_address i2c spi
one_line_spi = refl

-- SPI heads read as I2C heads: `020`, `060` and `0A0`
other_bus : list_text 0 spi
    ≡ (0x33 ∷ 0x20 ∷ 0x39 ∷ [])
    ++ (0x20 ∷ 0x2F ∷ 0x20 ∷ 0x30 ∷ 0x32 ∷ 0x30 ∷ 0x20 ∷ 0x30 ∷ 0x31 ∷ [])
    ++ (0x20 ∷ 0x2F ∷ 0x20 ∷ 0x30 ∷ 0x36 ∷ 0x30 ∷ 0x20 ∷ 0x35 ∷ 0x38 ∷ [])
    ++ (0x20 ∷ 0x2F ∷ 0x20 ∷ 0x30 ∷ 0x41 ∷ 0x30 ∷ 0x20 ∷ 0x34 ∷ 0x30 ∷ [])
unfolding list_text separated_text sizes_text transactions_text transaction_text spaced_bytes_text each_text spaced_text decimal_text decimal_up_to address_text byte_text digit sizes_good lengths_good transactions lengths lengths_from cut_from n_of t_of size16 byte_at head_address spi
other_bus = refl

-- no transaction prints `0 0`
none : shown 0 (0x00 ∷ 0x00 ∷ 0x00 ∷ 0x00 ∷ []) ≡ 0x30 ∷ 0x20 ∷ 0x30 ∷ 0x0A ∷ []
unfolding shown separated_text sizes_text transactions_text decimal_text decimal_up_to digit sizes_good lengths_good transactions lengths lengths_from cut_from n_of t_of size16 byte_at
none = refl

-- a read from the chip with pins 3 at 3FFh, and a write to every chip at 0A9h: `2 7`, `3FF AB 0C`, `0A9 FF`
others : shown 0 (0x02 ∷ 0x00 ∷ 0x07 ∷ 0x00 ∷ 0x04 ∷ 0x00 ∷ 0x03 ∷ 0x00 ∷ 0x9F ∷ 0xFF ∷ 0xAB ∷ 0x0C ∷ 0xA8 ∷ 0xA9 ∷ 0xFF ∷ [])
    ≡ (0x32 ∷ 0x20 ∷ 0x37 ∷ 0x0A ∷ [])
    ++ (0x33 ∷ 0x46 ∷ 0x46 ∷ 0x20 ∷ 0x41 ∷ 0x42 ∷ 0x20 ∷ 0x30 ∷ 0x43 ∷ 0x0A ∷ [])
    ++ (0x30 ∷ 0x41 ∷ 0x39 ∷ 0x20 ∷ 0x46 ∷ 0x46 ∷ 0x0A ∷ [])
unfolding shown separated_text sizes_text transactions_text transaction_text spaced_bytes_text each_text spaced_text decimal_text decimal_up_to address_text byte_text digit sizes_good lengths_good transactions lengths lengths_from cut_from n_of t_of size16 byte_at head_address
others = refl

-- sizes of more than one digit
sizes : sizes_text 0 702 ≡ 0x30 ∷ 0x20 ∷ 0x37 ∷ 0x30 ∷ 0x32 ∷ []
unfolding sizes_text decimal_text decimal_up_to digit
sizes = refl

largest : decimal_text 65535 ≡ 0x36 ∷ 0x35 ∷ 0x35 ∷ 0x33 ∷ 0x35 ∷ []
unfolding decimal_text decimal_up_to digit
largest = refl

-- ---- damaged lists print `11`: an empty one, one of three bytes, a length of 2, lengths that do not add to t, and a byte too many
empty : shown 0 [] ≡ eleven
unfolding shown separated_text refusal_text decimal_text decimal_up_to digit sizes_good lengths_good lengths lengths_from n_of t_of size16 byte_at eleven
empty = refl

short : shown 0 (0x00 ∷ 0x00 ∷ 0x00 ∷ []) ≡ eleven
unfolding shown separated_text refusal_text decimal_text decimal_up_to digit sizes_good lengths_good lengths lengths_from n_of t_of size16 byte_at eleven
short = refl

headless : shown 0 (0x01 ∷ 0x00 ∷ 0x02 ∷ 0x00 ∷ 0x02 ∷ 0x00 ∷ 0x80 ∷ 0x00 ∷ []) ≡ eleven
unfolding shown separated_text refusal_text decimal_text decimal_up_to digit sizes_good lengths_good lengths lengths_from n_of t_of size16 byte_at eleven
headless = refl

unequal : shown 0 (0x01 ∷ 0x00 ∷ 0x03 ∷ 0x00 ∷ 0x04 ∷ 0x00 ∷ 0x80 ∷ 0x00 ∷ 0x01 ∷ []) ≡ eleven
unfolding shown separated_text refusal_text decimal_text decimal_up_to digit sizes_good lengths_good lengths lengths_from n_of t_of size16 byte_at eleven
unequal = refl

trailing : shown 0 (0x01 ∷ 0x00 ∷ 0x03 ∷ 0x00 ∷ 0x03 ∷ 0x00 ∷ 0x80 ∷ 0x00 ∷ 0x01 ∷ 0x00 ∷ []) ≡ eleven
unfolding shown separated_text refusal_text decimal_text decimal_up_to digit sizes_good lengths_good lengths lengths_from n_of t_of size16 byte_at eleven
trailing = refl

-- on one line without a line's end
headless_one_line : list_text 0 (0x01 ∷ 0x00 ∷ 0x02 ∷ 0x00 ∷ 0x02 ∷ 0x00 ∷ 0x80 ∷ 0x00 ∷ []) ≡ 0x31 ∷ 0x31 ∷ []
unfolding list_text separated_text refusal_text decimal_text decimal_up_to digit sizes_good lengths_good lengths lengths_from n_of t_of size16 byte_at
headless_one_line = refl
