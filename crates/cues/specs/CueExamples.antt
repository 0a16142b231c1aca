-- What the conditions of CueOrder.antt are for: calls that meet them, and calls that do not and give other settings in the other order. Computed on
-- the settings alone, below soundness.
-- Assumes nothing.
use Rattle.std.specs.Prelude.{◌≡◌, refl, List, [], ◌∷◌, map, ℕ, get_or, replicate}
use Rattle.map.specs.Map.{address_of, shift_of, width_of, data_mode, is_wide}
use Rattle.dots.specs.Dots.{wide_of, level_of, put_level, put_bits, put_field}
use Rattle.host.specs.Record.{scene_word, scene_dot, scene_level, put_scene, put_setting}
use Rattle.cues.specs.CueOrder.{lamp, group, switch, CueCall, dot, register, scene, setting_in, lent_with}

-- 908 bytes with v at 001h, all others 00h
settings : ℕ → List ℕ
settings v = 0x00 ∷ v ∷ replicate 906 0x00

-- the settings after these calls
put_all : List ℕ → List CueCall → List ℕ
put_all x [] = x
put_all x (q ∷ qs) = put_all (put_setting x (setting_in q) (lent_with q)) qs

-- two Groups in one byte, 00Ch, and two Switches in one byte, 043h, keep each other
one_byte : (get_or (put_all (settings 0x58) (dot group 0 0 3 ∷ dot group 0 1 2 ∷ [])) 0x00C 0 ≡ 0x0B)
    × (get_or (put_all (settings 0x58) (dot group 0 1 2 ∷ dot group 0 0 3 ∷ [])) 0x00C 0 ≡ 0x0B)
    × (get_or (put_all (settings 0x58) (dot switch 0 7 1 ∷ dot switch 0 0 1 ∷ [])) 0x043 0 ≡ 0x81)
    × (get_or (put_all (settings 0x58) (dot switch 0 0 1 ∷ dot switch 0 7 1 ∷ [])) 0x043 0 ≡ 0x81)
unfolding put_all settings put_setting put_field put_bits address_of shift_of width_of
one_byte = (refl, refl, refl, refl)

-- on one dot the order of two Lamps shows, and so does that of two scenes with a dot in common: dot 5 in both, at other entries
first : List ℕ
first = 0x02 ∷ 0x00 ∷ 0x05 ∷ 0x07 ∷ 0x10 ∷ 0x00 ∷ 0x11 ∷ 0x00 ∷ []

second : List ℕ
second = 0x02 ∷ 0x00 ∷ 0x09 ∷ 0x05 ∷ 0x20 ∷ 0x00 ∷ 0x21 ∷ 0x00 ∷ []

one_dot : (level_of (put_all (settings 0x58) (dot lamp 0 5 0x10 ∷ dot lamp 0 5 0x21 ∷ [])) 5 ≡ 0x21)
    × (level_of (put_all (settings 0x58) (dot lamp 0 5 0x21 ∷ dot lamp 0 5 0x10 ∷ [])) 5 ≡ 0x10)
    × (level_of (put_all (settings 0x58) (scene first ∷ scene second ∷ [])) 5 ≡ 0x21)
    × (level_of (put_all (settings 0x58) (scene second ∷ scene first ∷ [])) 5 ≡ 0x10)
unfolding put_all settings first second put_setting put_scene scene_word scene_dot scene_level put_level level_of wide_of is_wide data_mode
one_dot = (refl, refl, refl, refl)

-- where dot 1 has its level with 8 bits, and with 16
level_bytes : List ℕ → List ℕ
level_bytes x = map (λ (a : ℕ). get_or x a 0) (0x201 ∷ 0x202 ∷ 0x203 ∷ [])

-- Between two Lamps another data mode: of a level that was put with 16 bits a later one of 8 bits leaves 202h and 203h. In data mode 2 there are
-- 16 bits again, and the later one stands alone.
two_modes : (level_bytes (put_all (settings 0x5E) (dot lamp 0 1 0x1234 ∷ register 0x001 0x58 ∷ dot lamp 0 1 0x56 ∷ [])) ≡ 0x56 ∷ 0x34 ∷ 0x12 ∷ [])
    × (level_bytes (put_all (settings 0x5E) (register 0x001 0x58 ∷ dot lamp 0 1 0x56 ∷ [])) ≡ 0x56 ∷ 0x00 ∷ 0x00 ∷ [])
    × (level_bytes (put_all (settings 0x5E) (dot lamp 0 1 0x1234 ∷ register 0x001 0x58 ∷ register 0x001 0x5C ∷ dot lamp 0 1 0x56 ∷ [])) ≡ 0x00 ∷ 0x56 ∷ 0x00 ∷ [])
unfolding put_all settings level_bytes put_setting put_level wide_of is_wide data_mode
two_modes = (refl, refl, refl)
