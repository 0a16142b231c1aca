-- Lamp faults: document 01, "Lamp faults", with the places of "Members and addresses", as document 02, Q-2 amends them. r is a record, m a
-- member's code, d a dot's number, f the field Open or Short, a an address, image a chip image, bytes the fault bytes and result the
-- buffer. Every definition is total.
-- Assumes nothing.
use Rattle.std.specs.Prelude.{Bool, true, false, cond, ◌&&◌, ◌||◌, List, [], ◌∷◌, ℕ, Result, Ok, Err, zero, suc, ◌-◌, ◌/◌, ◌%◌, ◌^◌, ltb, eqb, length, get_or}
use Rattle.std.specs.Bool.{beq}
use Rattle.map.specs.declared.dots.Field.{Field}
use Rattle.map.specs.declared.dots.Field.TheVariants.{Open, Short}
use Rattle.map.specs.declared.refusals.Refusal.{Refusal}
use Rattle.map.specs.declared.refusals.Refusal.TheVariants.{FaultLength, BufferShort}
use Rattle.map.specs.Refusals as refusals
use Rattle.map.specs.Refusals.{refusal_number, accepted}
use Rattle.map.specs.Map.{lines_of, columns_of, number_in, address_of, shift_of}
use Rattle.map.specs.Lists.{filled}
use Rattle.dots.specs.Dots.{wide_of, level_of}
use Rattle.host.specs.declared.Record.{Record}
use Rattle.host.specs.Record.{when_sound}
use Rattle.faults.specs.declared.Agreement.{Agreement}

-- ---- The refusals

-- "Faults takes the record in place of the member and checks 14 first, and 1 never occurs there"; then "13: input not 67. 10: result under
-- 198.": by the lengths of the fault bytes and of the buffer
unfoldable pub faults_checked : Record → ℕ → ℕ → refusals.Answer
faults_checked r given room =
    when_sound r
    (cond (eqb given 67)
    (cond (ltb room 198) (Err BufferShort) (Ok tt))
    (Err FaultLength))

-- ---- The fault bytes

-- "67 bytes, 064h-0A6h": the byte of an address
unfoldable pub fault_byte : List ℕ → ℕ → ℕ
fault_byte bytes a = get_or bytes (a - 0x064) 0

-- "Bit 0 is the lowest bit."
unfoldable pub bit_set : ℕ → ℕ → Bool
bit_set byte k = eqb (byte / 2 ^ k % 2) 1

-- "065h-085h open bits, 086h-0A6h short bits, laid out as the switches"
unfoldable pub is_set : Field → List ℕ → ℕ → Bool
is_set f bytes d = bit_set (fault_byte bytes (address_of f (d / 18) (d % 18))) (shift_of f (d % 18))

-- ---- Dim lamps

-- "The chip looks for shorts and opens only where PWM is at least 25 in data modes 0 and 1". Document 002, line 622 for opens and line 633 for
-- shorts: "only performed when PWM ≥ 25 (Mode 1 and Mode 2) or PWM ≥ 6400 (Mode 3)". Mode 1 is data mode 0, Mode 2 is 1, Mode 3 is 2 and 3.
unfoldable pub tested_from_narrow : ℕ
tested_from_narrow = 25

-- "or 6,400 in modes 2 and 3 (document 002)"
unfoldable pub tested_from_wide : ℕ
tested_from_wide = 6400

-- "that figure", by whether levels have 16 bits
unfoldable pub tested_from : Bool → ℕ
tested_from wide = cond wide tested_from_wide tested_from_narrow

-- a lamp "whose own level in the chip image, in the chip image's data mode, is below that figure"
unfoldable pub is_dim : List ℕ → ℕ → Bool
is_dim image d = ltb (level_of image d) (tested_from (wide_of image))

-- ---- The readings

-- whether the member has the dot
unfoldable pub has_dot : ℕ → ℕ → Bool
has_dot m d = number_in (lines_of m) (columns_of m) d

-- "0 sound, 1 open, 2 short, 3 both": by the open bit and the short bit of a dot. "a lamp with clear bits" that is dim "reads 5, untested. A
-- set bit reads as before."
unfoldable pub lamp_reading : Bool → Bool → Bool → ℕ
lamp_reading false false dim = cond dim 5 0
lamp_reading true false dim = 1
lamp_reading false true dim = 2
lamp_reading true true dim = 3

-- "4 no such dot": "So does an absent dot."
unfoldable pub reading : ℕ → List ℕ → List ℕ → ℕ → ℕ
reading m image bytes d = cond (has_dot m d) (lamp_reading (is_set Open bytes d) (is_set Short bytes d) (is_dim image d)) 4

-- "The first 198 bytes become, by dot number" the readings. Those behind them stay.
unfoldable pub readings : Record → List ℕ → List ℕ → List ℕ
readings r bytes result = filled (reading r.header.member r.image bytes) 0 198 result

-- ---- The summary: "The two answers about 064h still go by the open and short bits."

-- f holds at some number below n
unfoldable pub some_below : (ℕ → Bool) → ℕ → Bool
some_below f zero = false
some_below f (suc n) = f n || some_below f n

-- an existing dot is open, or short: the bits of a dot that the member has not count for nothing
unfoldable pub is_faulty : Field → ℕ → List ℕ → ℕ → Bool
is_faulty f m bytes d = has_dot m d && is_set f bytes d

-- "some existing dot is open", or short
unfoldable pub some_faulty : Field → ℕ → List ℕ → Bool
some_faulty f m bytes = some_below (is_faulty f m bytes) 198

-- "whether 064h bit 1 equals "some existing dot is open""
unfoldable pub opens_agree : ℕ → List ℕ → Bool
opens_agree m bytes = beq (bit_set (fault_byte bytes 0x064) 1) (some_faulty Open m bytes)

-- "and bit 0 the same for short"
unfoldable pub shorts_agree : ℕ → List ℕ → Bool
shorts_agree m bytes = beq (bit_set (fault_byte bytes 0x064) 0) (some_faulty Short m bytes)

-- ---- The answer and the buffer

-- "The answer says": the two answers about 064h, or a refusal
abbrev pub Answer : Type 0
Answer = Result Agreement Refusal

abbrev pub agreed : Bool → Bool → Answer
agreed opens shorts = Ok (record { opens = opens; shorts = shorts })

-- the number and the values of an answer: 0 and, for opens and for shorts, 1 where 064h agrees; a refusal "carries only its number"
unfoldable pub answer_numbers : Answer → List ℕ
answer_numbers (Ok g) = 0 ∷ cond g.opens 1 0 ∷ cond g.shorts 1 0 ∷ []
answer_numbers (Err r) = refusal_number r ∷ []

-- what the checks refuse is refused; else the two answers about 064h
unfoldable pub answered : refusals.Answer → Bool → Bool → Answer
answered (Ok u) opens shorts = agreed opens shorts
answered (Err r) opens shorts = Err r

-- "The answer says whether 064h bit 1 equals "some existing dot is open" and bit 0 the same for short."
unfoldable pub faults_answer : Record → List ℕ → List ℕ → Answer
faults_answer r bytes result =
    answered (faults_checked r (length bytes) (length result)) (opens_agree r.header.member bytes) (shorts_agree r.header.member bytes)

-- a refusal leaves every byte of the buffer
unfoldable pub faults_result : Record → List ℕ → List ℕ → List ℕ
faults_result r bytes result = cond (accepted (faults_checked r (length bytes) (length result))) (readings r bytes result) result
