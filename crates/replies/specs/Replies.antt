-- Replies as lines: the table's last column. b is the bytes of the buffer that was lent, as the call left them; 20h is a space, 0Ah LF.
-- Assumes nothing.
use Rattle.std.specs.Prelude.{List, [], ◌∷◌, ◌++◌, ℕ}
use Rattle.map.specs.Refusals.{numbers_in}
use Rattle.text.specs.Text.{address_text, decimal_text, each_text, bytes_text}
use Rattle.replies.specs.declared.Reply.{Reply}
use Rattle.replies.specs.declared.Reply.TheVariants.{Bad, Numbers, Lent, Bytes, Same, Differs, Free, Locked}

-- a value of an answer stands behind a space
unfoldable pub value_text : ℕ → List ℕ
value_text v = 0x20 ∷ decimal_text v

-- the number of an answer and its values: `0 n t stored`, `0 n t`, `10 NEEDED`, `0 O S`, `N`
unfoldable pub numbers_text : List ℕ → List ℕ
numbers_text [] = []
numbers_text (n ∷ values) = decimal_text n ++ each_text value_text values

-- BUFFER stands behind a space
unfoldable pub lent_text : List ℕ → List ℕ
lent_text b = 0x20 ∷ bytes_text b

-- `same`
abbrev pub same_word : List ℕ
same_word = 0x73 ∷ 0x61 ∷ 0x6D ∷ 0x65 ∷ []

-- `differs` and a space
abbrev pub differs_word : List ℕ
differs_word = 0x64 ∷ 0x69 ∷ 0x66 ∷ 0x66 ∷ 0x65 ∷ 0x72 ∷ 0x73 ∷ 0x20 ∷ []

-- `free`
abbrev pub free_word : List ℕ
free_word = 0x66 ∷ 0x72 ∷ 0x65 ∷ 0x65 ∷ []

-- `locked`
abbrev pub locked_word : List ℕ
locked_word = 0x6C ∷ 0x6F ∷ 0x63 ∷ 0x6B ∷ 0x65 ∷ 0x64 ∷ []

-- the table's last column
unfoldable pub reply_text : Reply → List ℕ → List ℕ
-- `?`
reply_text Bad b = 0x3F ∷ []
-- "`0` or the refusal number"
reply_text (Numbers n) b = numbers_text (numbers_in n)
-- "`0 n t stored BUFFER`, or `10 NEEDED BUFFER`, or `14 BUFFER`"; "`0 n t BUFFER`" and "`10 BUFFER`" of a Reset or a Clear;
-- "`0 O S BUFFER` (O, S: 1 if 064h bit 1, bit 0 agrees, else 0), or `N BUFFER`"
reply_text (Lent n) b = numbers_text (numbers_in n) ++ lent_text b
-- "1,816 hex digits"
reply_text Bytes b = bytes_text b
-- `same`
reply_text Same b = same_word
-- "`differs A` with the lowest differing address in three hex digits"
reply_text (Differs a) b = differs_word ++ address_text a
-- "the marks of the record": `free`, `locked`
reply_text Free b = free_word
reply_text Locked b = locked_word

-- "writes one line for each call"
unfoldable pub reply_line : Reply → List ℕ → List ℕ
reply_line r b = reply_text r b ++ (0x0A ∷ [])

-- "`echo on` puts the line's number and the call before its answer", in a line of their own: n is the number, l the line
unfoldable pub echo_line : ℕ → List ℕ → List ℕ
echo_line n l = decimal_text n ++ (0x20 ∷ (l ++ (0x0A ∷ [])))
