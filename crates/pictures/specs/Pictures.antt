-- A panel's lamps, faults and differences as text, a list of ASCII codes: 20h is a space, 0Ah LF. m is a member's code, image the bytes of
-- a chip's registers, l a scan line, s a sink, a an address. Every definition is total: a byte behind the end of an image is 0.
-- Assumes nothing.
use Rattle.std.specs.Prelude.{◌≡◌, Bool, true, false, cond, not, ◌&&◌, ◌||◌, List, [], ◌∷◌, ◌++◌, ℕ, zero, suc, ◌+◌, ◌-◌, ◌*◌, ◌/◌, ◌%◌, ltb, eqb, get_or}
use Rattle.map.specs.declared.dots.Field.TheVariants.{Switch}
use Rattle.map.specs.Lists.{table}
use Rattle.map.specs.Map.{lines_of, is_dot, dot_number, writable_of}
use Rattle.dots.specs.Dots.{top_level, level_of, field_of}
use Rattle.text.specs.Text.{address_text, each_text, spaced_bytes_text}

-- ---- Lines

-- a line behind another: LF first
unfoldable pub next_line : (ℕ → List ℕ) → ℕ → List ℕ
next_line f x = 0x0A ∷ f x

-- the lines f x of some numbers x, LF between and none behind the last
unfoldable pub lines_text : (ℕ → List ℕ) → List ℕ → List ℕ
lines_text f [] = []
lines_text f (x ∷ xs) = f x ++ each_text (next_line f) xs

-- "a character for each sink": sinks 0 to 17
unfoldable pub row_text : (ℕ → ℕ → ℕ) → ℕ → List ℕ
row_text char l = table (char l) 18

-- "one line of output for each scan line": lines 0 to lines_of m - 1
unfoldable pub picture_text : ℕ → (ℕ → ℕ → ℕ) → List ℕ
picture_text m char = lines_text (row_text char) (table (λ l. l) (lines_of m))

-- a function that draws one dot, with what a call of it may answer (`post`), answers the dot's character
abbrev pub Draws : (ℕ → ℕ → ℕ → Type 0) → (ℕ → ℕ → ℕ) → Type 0
Draws post char = (l s r : ℕ) → post l s r → r ≡ char l s

-- ---- Lamps

-- the chip is on: bit 0 of 000h
unfoldable pub is_on : List ℕ → Bool
is_on image = eqb (get_or image 0x000 0 % 2) 1

-- a level in tenths of the largest, rounded up
unfoldable pub tenths : ℕ → ℕ → ℕ
tenths top v = (10 * v + top - 1) / top

-- "`1` to `9` and `#` by level"
unfoldable pub tenths_char : ℕ → ℕ → ℕ
tenths_char top v = cond (ltb (tenths top v) 10) (0x30 + tenths top v) 0x23

-- "`.` off or dark, .., `x` switched off with a level": a dot that is there, by its level v and its switch bit
unfoldable pub dot_char : Bool → ℕ → ℕ → ℕ → ℕ
dot_char on top v switch = cond (not on || eqb v 0) 0x2E (cond (eqb switch 0) 0x78 (tenths_char top v))

-- "` ` absent"
unfoldable pub lamp_char : ℕ → List ℕ → ℕ → ℕ → ℕ
lamp_char m image l s =
    cond (is_dot m l s) (dot_char (is_on image) (top_level image) (level_of image (dot_number l s)) (field_of Switch image l s)) 0x20

-- "draws the panel as the chip has it: one line of output for each scan line, a character for each sink"
unfoldable pub lamps_text : ℕ → List ℕ → List ℕ
lamps_text m image = picture_text m (lamp_char m image)

-- ---- Faults

-- 0 `.`, 1 `o`, 2 `s`, 3 `b`, 4 ` ` (no such dot), 5 `-` (untested), any other `?`
unfoldable pub reading_char : ℕ → ℕ
reading_char reading = get_or (0x2E ∷ 0x6F ∷ 0x73 ∷ 0x62 ∷ 0x20 ∷ 0x2D ∷ []) reading 0x3F

-- a reading stands at its dot's number; one that is not there counts as 4
unfoldable pub fault_char : List ℕ → ℕ → ℕ → ℕ
fault_char readings l s = reading_char (get_or readings (dot_number l s) 4)

-- "draws the readings of Faults the same way"
unfoldable pub faults_text : ℕ → List ℕ → List ℕ
faults_text m readings = picture_text m (fault_char readings)

-- ---- Differences

-- "every writable register in which the chip and the ledger differ": held is the chip's bytes, asked the ledger's
unfoldable pub differs : ℕ → List ℕ → List ℕ → ℕ → Bool
differs m held asked a = writable_of m a && not (eqb (get_or held a 0) (get_or asked a 0))

-- those of the n numbers from a on at which f holds, rising
unfoldable pub where_from : (ℕ → Bool) → ℕ → ℕ → List ℕ
where_from f a zero = []
where_from f a (suc n) = elim (f a) [ true ↦ a ∷ where_from f (suc a) n | false ↦ where_from f (suc a) n ]

-- the registers that differ, from an address on: there are 908 addresses
unfoldable pub differing_from : ℕ → List ℕ → List ℕ → ℕ → List ℕ
differing_from m held asked a = where_from (differs m held asked) a (908 - a)

-- the address in three digits, a space, the chip's byte in two, a space, the ledger's byte in two
unfoldable pub register_text : List ℕ → List ℕ → ℕ → List ℕ
register_text held asked a = address_text a ++ spaced_bytes_text (get_or held a 0 ∷ get_or asked a 0 ∷ [])

-- `same`
abbrev pub same_word : List ℕ
same_word = 0x73 ∷ 0x61 ∷ 0x6D ∷ 0x65 ∷ []

-- `same` where there is no line
unfoldable pub or_same : (ℕ → List ℕ) → List ℕ → List ℕ
or_same f [] = same_word
or_same f (x ∷ xs) = lines_text f (x ∷ xs)

-- "lists every writable register in which the chip and the ledger differ"
unfoldable pub differences_text : ℕ → List ℕ → List ℕ → List ℕ
differences_text m held asked = or_same (register_text held asked) (differing_from m held asked 0)
