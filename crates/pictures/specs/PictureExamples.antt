-- Pictures of a small panel, computed: an LP5861T, which has one scan line, and the first of its 18 sinks.
-- Assumes nothing.
use Rattle.std.specs.Prelude.{◌≡◌, refl, List, [], ◌∷◌, ◌++◌, ℕ, set, replicate}
use Rattle.map.specs.Lists.{table_from, table}
use Rattle.map.specs.Map.{lines_of, columns_of, has_column, dot_in, is_dot, address_of, shift_of, width_of, data_mode, is_wide, kind_of, first_masks, first_mask, no_sink, group_mask, switch_mask, group_reserved, switch_reserved, number_in, current_reserved, pwm_reserved, reserved_as, reserved_of, writable_of}
use Rattle.dots.specs.Dots.{wide_of, top_level, level_of, field_of}
use Rattle.text.specs.Text.{digit, byte_text, address_text, each_text, spaced_text, spaced_bytes_text}
use Rattle.pictures.specs.Pictures.{next_line, lines_text, row_text, picture_text, is_on, tenths, tenths_char, dot_char, lamp_char, lamps_text, reading_char, fault_char, faults_text, differs, where_from, differing_from, register_text, or_same, differences_text}

-- ---- Lamps

-- 000h, 001h, then zeros; switches at 043h; levels at 200h
panel : ℕ → ℕ → List ℕ → List ℕ → List ℕ
panel on mode switches levels = on ∷ mode ∷ (replicate 0x041 0 ++ (switches ++ (replicate 0x1BA 0 ++ levels)))

-- six lamps at levels 0, 1, 26, 229, 230 and 255 of 255, one with level 64 that is switched off, and eleven dark ones: `.129##x` and dots
lit : lamps_text 1 (panel 0x01 0x58 (0xBF ∷ 0xFF ∷ 0x03 ∷ []) (0 ∷ 1 ∷ 26 ∷ 229 ∷ 230 ∷ 255 ∷ 64 ∷ []))
    ≡ (0x2E ∷ 0x31 ∷ 0x32 ∷ 0x39 ∷ 0x23 ∷ 0x23 ∷ 0x78 ∷ []) ++ replicate 11 0x2E
unfolding lamps_text picture_text row_text lines_text each_text table table_from lamp_char is_dot dot_in has_column lines_of columns_of dot_char is_on top_level wide_of is_wide data_mode level_of field_of address_of shift_of width_of tenths_char tenths panel
lit = refl

-- levels 1, 6,553, 6,554 and 65,535 of 65,535, in 16 bits: `112#`
wide : lamps_text 1 (panel 0x01 0x5C (0xFF ∷ 0xFF ∷ 0x03 ∷ []) (0x01 ∷ 0x00 ∷ 0x99 ∷ 0x19 ∷ 0x9A ∷ 0x19 ∷ 0xFF ∷ 0xFF ∷ []))
    ≡ (0x31 ∷ 0x31 ∷ 0x32 ∷ 0x23 ∷ []) ++ replicate 14 0x2E
unfolding lamps_text picture_text row_text lines_text each_text table table_from lamp_char is_dot dot_in has_column lines_of columns_of dot_char is_on top_level wide_of is_wide data_mode level_of field_of address_of shift_of width_of tenths_char tenths panel
wide = refl

-- a chip that is off lights nothing
off : lamps_text 1 (panel 0x00 0x58 (0xBF ∷ 0xFF ∷ 0x03 ∷ []) (0 ∷ 1 ∷ 26 ∷ 229 ∷ 230 ∷ 255 ∷ 64 ∷ [])) ≡ replicate 18 0x2E
unfolding lamps_text picture_text row_text lines_text each_text table table_from lamp_char is_dot dot_in has_column lines_of columns_of dot_char is_on top_level wide_of is_wide data_mode level_of field_of address_of shift_of width_of tenths_char tenths panel
off = refl

-- no panel, no text
none : lamps_text 5 [] ≡ []
unfolding lamps_text picture_text lines_text table table_from lines_of
none = refl

-- ---- Faults

-- sound, open, short, both, no such dot, untested, a number that is no reading; readings that are not there count as 4: `.osb -?`, then
-- spaces
faulty : faults_text 1 (0 ∷ 1 ∷ 2 ∷ 3 ∷ 4 ∷ 5 ∷ 6 ∷ []) ≡ (0x2E ∷ 0x6F ∷ 0x73 ∷ 0x62 ∷ 0x20 ∷ 0x2D ∷ 0x3F ∷ []) ++ replicate 11 0x20
unfolding faults_text picture_text row_text lines_text each_text table table_from lines_of fault_char reading_char
faulty = refl

-- LF between lines and none behind the last: an LP5864 with no readings
blank : faults_text 2 [] ≡ replicate 18 0x20 ++ (0x0A ∷ (replicate 18 0x20 ++ (0x0A ∷ (replicate 18 0x20 ++ (0x0A ∷ replicate 18 0x20)))))
unfolding faults_text picture_text row_text lines_text next_line each_text table table_from lines_of fault_char reading_char
blank = refl

-- ---- Differences

-- 000h is 01h on the chip and 00h in the ledger; 005h FFh and 7Fh. 0A7h differs too, but is not writable: `000 01 00`, LF, `005 FF 7F`
two : differences_text 1 (0x01 ∷ 0x58 ∷ 0x00 ∷ 0x00 ∷ 0x47 ∷ 0xFF ∷ []) (set (0x00 ∷ 0x58 ∷ 0x00 ∷ 0x00 ∷ 0x47 ∷ 0x7F ∷ replicate 0x0B0 0) 0x0A7 0xFF)
    ≡ (0x30 ∷ 0x30 ∷ 0x30 ∷ 0x20 ∷ 0x30 ∷ 0x31 ∷ 0x20 ∷ 0x30 ∷ 0x30 ∷ [])
    ++ (0x0A ∷ 0x30 ∷ 0x30 ∷ 0x35 ∷ 0x20 ∷ 0x46 ∷ 0x46 ∷ 0x20 ∷ 0x37 ∷ 0x46 ∷ [])
unfolding differences_text or_same differing_from where_from differs register_text lines_text next_line each_text address_text byte_text digit spaced_bytes_text spaced_text writable_of reserved_of reserved_as kind_of lines_of columns_of pwm_reserved number_in dot_in has_column current_reserved switch_reserved switch_mask no_sink group_reserved group_mask first_mask first_masks
two = refl

-- a chip that has what the ledger has: `same`
agreed : differences_text 1 (0x01 ∷ 0x58 ∷ []) (0x01 ∷ 0x58 ∷ 0x00 ∷ []) ≡ 0x73 ∷ 0x61 ∷ 0x6D ∷ 0x65 ∷ []
unfolding differences_text or_same differing_from where_from differs writable_of reserved_of reserved_as kind_of lines_of columns_of pwm_reserved number_in dot_in has_column current_reserved switch_reserved switch_mask no_sink group_reserved group_mask first_mask first_masks
agreed = refl
