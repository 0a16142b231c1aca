-- Faults, computed on one set of fault bytes: sinks 0 and 2 of line 0 and sink 0 of line 1 are open, sinks 1 and 2 of line 0 short, and
-- the last dot is both.
-- Assumes nothing.
use Rattle.std.specs.Prelude.{◌≡◌, Err, Bool, true, false, List, [], ◌∷◌, ◌++◌, map, ℕ, take, drop, replicate}
use Rattle.std.proofs.Math.Path.{refl}
use Rattle.map.specs.declared.refusals.Refusal.TheVariants.{FaultLength}
use Rattle.map.specs.Refusals.{answer_number, open_answer, opens}
use Rattle.map.specs.Map.{lines_of, columns_of, has_column, dot_in, number_in, address_of, shift_of, data_mode, is_wide}
use Rattle.map.specs.Lists.{filled}
use Rattle.dots.specs.Dots.{wide_of, level_of}
use Rattle.host.specs.declared.Record.{Record}
use Rattle.host.specs.Record.{header_of, record_of, free, sound_of, when_sound}
use Rattle.faults.specs.Faults.{faults_checked, fault_byte, bit_set, is_set, tested_from_narrow, tested_from_wide, tested_from, is_dim, has_dot, lamp_reading, reading, readings, some_below, is_faulty, some_faulty, opens_agree, shorts_agree, agreed, answer_numbers, answered, faults_answer, faults_result}

-- "13: input not 67. 10: result under 198.", in this order, for a sound record
module _ (r : Record) (sound : sound_of r ≡ true) where
  checks : (answer_number (faults_checked r 66 197) ≡ 13) × (answer_number (faults_checked r 68 198) ≡ 13) × (answer_number (faults_checked r 67 197) ≡ 10)
      × (answer_number (faults_checked r 67 198) ≡ 0)
  unfolding faults_checked when_sound
  checks = rw sound (refl, refl, refl, refl)

-- "checks 14 first, and 1 never occurs there": a record of member 5, with 66 bytes and a buffer of 197, which stays
member_5 : (answer_numbers (faults_answer (record_of (header_of 5 0 0 free) [] []) (replicate 66 0x00) (replicate 197 0xA5)) ≡ 14 ∷ [])
    × (faults_result (record_of (header_of 5 0 0 free) [] []) (replicate 66 0x00) (replicate 197 0xA5) ≡ replicate 197 0xA5)
unfolding faults_answer faults_result faults_checked when_sound sound_of opens open_answer answered answer_numbers
member_5 = (refl, refl)

-- "064h-0A6h": the fault state s, the open bytes from 065h on, the short bytes from 086h on
bytes : ℕ → List ℕ
bytes s = s ∷ 0x05 ∷ 0x00 ∷ 0x00 ∷ 0x01 ∷ (replicate 28 0x00 ++ (0x02 ∷ 0x06 ∷ (replicate 31 0x00 ++ (0x02 ∷ []))))

-- an image with this byte in 001h: levels of 16 bits are 6,399 and 6,400 of dots 0 and 1, 6,400 of dot 2, 6,399 of dot 3, 6,400 of dot 4; of 8
-- bits 255, 24, 0, 25, 0. The levels behind them are 0.
levels : ℕ → List ℕ
levels mode = 0x01 ∷ mode ∷ (replicate 510 0x00 ++ (0xFF ∷ 0x18 ∷ 0x00 ∷ 0x19 ∷ 0x00 ∷ 0x19 ∷ 0xFF ∷ 0x18 ∷ 0x00 ∷ 0x19 ∷ []))

-- "25 in data modes 0 and 1, or 6,400 in modes 2 and 3": dots 0 to 4 in each data mode
dim_by_mode : (m : ℕ → List Bool) → ((x : ℕ) → m x ≡ map (is_dim (levels x)) (0 ∷ 1 ∷ 2 ∷ 3 ∷ 4 ∷ [])) →
    (m 0x58 ≡ false ∷ true ∷ true ∷ false ∷ true ∷ []) × (m 0x5A ≡ false ∷ true ∷ true ∷ false ∷ true ∷ [])
    × (m 0x5C ≡ true ∷ false ∷ false ∷ true ∷ false ∷ []) × (m 0x5E ≡ true ∷ false ∷ false ∷ true ∷ false ∷ [])
unfolding is_dim tested_from tested_from_narrow tested_from_wide level_of wide_of is_wide data_mode levels
dim_by_mode m e = (e 0x58, e 0x5A, e 0x5C, e 0x5E)

-- "0 sound, 1 open, 2 short, 3 both": of clear bits by whether the lamp is dim; "A set bit reads as before.", dim or not
by_bits_lem : (dim : Bool) → (lamp_reading false false false ≡ 0) × (lamp_reading false false true ≡ 5)
    × (lamp_reading true false dim ≡ 1) × (lamp_reading false true dim ≡ 2) × (lamp_reading true true dim ≡ 3)
unfolding lamp_reading
by_bits_lem dim = (refl, refl, refl, refl, refl)

-- "0 sound, 1 open, 2 short, 3 both, 4 no such dot", "5, untested": of the LP5860, with levels of 16 bits and of 8, and, whose sinks 2 and 3
-- are absent, of the LP5867
readings_of_lp5860 : (map (reading 0 (levels 0x5E) (bytes 0x03)) (0 ∷ 1 ∷ 2 ∷ 3 ∷ 4 ∷ 18 ∷ 197 ∷ 198 ∷ []) ≡ 1 ∷ 2 ∷ 3 ∷ 5 ∷ 0 ∷ 1 ∷ 3 ∷ 4 ∷ [])
    × (map (reading 0 (levels 0x5A) (bytes 0x03)) (0 ∷ 1 ∷ 2 ∷ 3 ∷ 4 ∷ 18 ∷ 197 ∷ 198 ∷ []) ≡ 1 ∷ 2 ∷ 3 ∷ 0 ∷ 5 ∷ 1 ∷ 3 ∷ 4 ∷ [])
unfolding reading has_dot is_set bit_set fault_byte is_dim tested_from tested_from_narrow tested_from_wide level_of wide_of is_wide data_mode lamp_reading address_of shift_of number_in dot_in lines_of columns_of has_column bytes levels
readings_of_lp5860 = (refl, refl)

readings_of_lp5867 : map (reading 3 (levels 0x5E) (bytes 0x03)) (0 ∷ 1 ∷ 2 ∷ 3 ∷ 8 ∷ 197 ∷ []) ≡ 1 ∷ 2 ∷ 4 ∷ 4 ∷ 5 ∷ 4 ∷ []
unfolding reading has_dot is_set bit_set fault_byte is_dim tested_from tested_from_narrow tested_from_wide level_of wide_of is_wide data_mode lamp_reading address_of shift_of number_in dot_in lines_of columns_of has_column bytes levels
readings_of_lp5867 = refl

-- "in the chip image, in the chip image's data mode": not the settings, which have levels of 8 bits here; and "by dot number" in "the first 198
-- bytes", those behind them stay
by_the_image : (take 5 (readings (record_of (header_of 0 0 0 free) (levels 0x5A) (levels 0x5E)) (bytes 0x03) (replicate 200 0xA5)) ≡ 1 ∷ 2 ∷ 3 ∷ 5 ∷ 0 ∷ [])
    × (drop 196 (readings (record_of (header_of 0 0 0 free) (levels 0x5A) (levels 0x5E)) (bytes 0x03) (replicate 200 0xA5)) ≡ 0x05 ∷ 0x03 ∷ 0xA5 ∷ 0xA5 ∷ [])
unfolding readings filled reading has_dot is_set bit_set fault_byte is_dim tested_from tested_from_narrow tested_from_wide level_of wide_of is_wide data_mode lamp_reading address_of shift_of number_in dot_in lines_of columns_of has_column bytes levels
by_the_image = (refl, refl)

-- "whether 064h bit 1 equals "some existing dot is open" and bit 0 the same for short": 02h says open alone
summary : (opens_agree 0 (bytes 0x02) ≡ true) × (shorts_agree 0 (bytes 0x02) ≡ false) × (opens_agree 0 (bytes 0x01) ≡ false) × (shorts_agree 0 (bytes 0x01) ≡ true)
unfolding opens_agree shorts_agree some_faulty some_below is_faulty has_dot is_set bit_set fault_byte address_of shift_of number_in dot_in lines_of columns_of has_column bytes
summary = (refl, refl, refl, refl)

-- "existing": the bits of the LP5867's sink 2 count for nothing
absent_dots : (opens_agree 3 (0x00 ∷ 0x04 ∷ replicate 65 0x00) ≡ true) × (shorts_agree 3 (replicate 34 0x00 ++ (0x04 ∷ replicate 32 0x00)) ≡ true)
unfolding opens_agree shorts_agree some_faulty some_below is_faulty has_dot is_set bit_set fault_byte address_of shift_of number_in dot_in lines_of columns_of has_column
absent_dots = (refl, refl)

-- "this paper's number and values": 0 and 1 where 064h agrees; a refusal "carries only its number"
numbers_and_values : (answer_numbers (agreed true false) ≡ 0 ∷ 1 ∷ 0 ∷ []) × (answer_numbers (agreed false true) ≡ 0 ∷ 0 ∷ 1 ∷ []) × (answer_numbers (Err FaultLength) ≡ 13 ∷ [])
unfolding answer_numbers
numbers_and_values = (refl, refl, refl)
