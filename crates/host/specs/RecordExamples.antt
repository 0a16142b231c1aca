-- Bench examples of document 01 that concern the settings, and each call's definition where a slip would show, computed. What goes through
-- soundness is stated of any sound record, and so is computed below it.
-- Assumes nothing.
use Rattle.std.specs.Prelude.{◌≡◌, true, false, List, [], ◌∷◌, ◌++◌, map, ℕ, get_or, set, replicate}
use Rattle.std.proofs.Math.Path.{refl}
use Rattle.map.specs.Refusals.{answer_number, open_answer}
use Rattle.map.specs.Map.{lines_of, columns_of, has_column, dot_in, is_dot, number_in, kind_of, address_of, shift_of, width_of, data_mode, is_wide}
use Rattle.map.specs.Map.{first_masks, first_mask, pwm_reserved, reserved_as, reserved_of, writable_of, first_reset, reset_as, reset_of}
use Rattle.map.specs.Lists.{all_from}
use Rattle.map.specs.Images.{ok_byte, reset_image}
use Rattle.host.specs.declared.Record.{Record}
use Rattle.dots.specs.Dots.{wide_of, top_level, put_level, put_bits, put_field}
use Rattle.calls.specs.declared.Setting.{Setting}
use Rattle.host.specs.Record.{header_of, record_of, is_trim, is_locked, free, locked, lock_keeps, may_write, same_trims, marks_ok, sound_of, when_sound, opened, open_host, open_of, sound_answer, power_lost_of, is_on, is_lockable, lock_answer, lock_of}
use Rattle.host.specs.Record.{register_answer, when_dot, lamp_answer, field_answer, arguments_answer, setting_answer, put_setting, changed_to, setting_of}
use Rattle.host.specs.Record.{scene_word, scene_dot, scene_level, scene_sized, scene_has_dot, scene_fits, scene_answer, put_scene}
use Rattle.host.specs.Record.{register_of, lamp_of, group_of, switch_of, scene_of}

-- ---- Open

-- "Both images start at reset values."
accepted_open : (open_of 4 0 3).host ≡ record_of (header_of 4 0 3 free) (reset_image 4) (reset_image 4)
unfolding open_of open_host opened open_answer
accepted_open = refl

-- "A refusal returns member 0, bus 0, pins 0 opened.", whatever was refused
lp5860 : Record
lp5860 = record_of (header_of 0 0 0 free) (reset_image 0) (reset_image 0)

refused_open : ((open_of 5 0 0).host ≡ lp5860) × ((open_of 4 2 0).host ≡ lp5860) × ((open_of 4 1 1).host ≡ lp5860)
unfolding open_of open_host opened open_answer lp5860
refused_open = (refl, refl, refl)

-- ---- Refusals

-- "Every call but Open .. first refuses an unsound record with 14."
module _ (r : Record) (unsound : sound_of r ≡ false) where
  setting_14 : (q : Setting) (lent : List ℕ) → answer_number (setting_of r q lent).answer ≡ 14
  unfolding setting_of changed_to setting_answer when_sound
  setting_14 q lent = rw unsound refl

  power_lost_14 : answer_number (power_lost_of r).answer ≡ 14
  unfolding power_lost_of sound_answer when_sound
  power_lost_14 = rw unsound refl

  lock_14 : answer_number (lock_of r).answer ≡ 14
  unfolding lock_of lock_answer when_sound
  lock_14 = rw unsound refl

-- the others of a sound LP5860 with levels of 8 bits, in "the order its refusals stand here"
module _ (r : Record) (sound : sound_of r ≡ true) (member : r.header.member ≡ 0) (top : top_level r.settings ≡ 255) where
  -- "4: not writable, above 38Bh included. 5: a reserved bit differs from its reset value."
  register_answers : (answer_number (register_of r 0x0AA 0xFF).answer ≡ 4) × (answer_number (register_of r 0x38C 0x00).answer ≡ 4)
      × (answer_number (register_of r 0x000 0x02).answer ≡ 5) × (answer_number (register_of r 0x000 0x01).answer ≡ 0) × (answer_number (register_of r 0x38B 0xFF).answer ≡ 0)
  unfolding setting_of changed_to setting_answer arguments_answer put_setting register_answer lock_keeps is_trim is_locked when_sound ok_byte writable_of reserved_of reserved_as kind_of
      lines_of columns_of has_column dot_in number_in first_masks first_mask pwm_reserved reset_of reset_as first_reset
  register_answers = rw (sound, member) (refl, refl, refl, refl, refl)

  -- "6: no such dot. 7: level above 255 when the settings' data mode is 0 or 1"
  lamp_answers : (answer_number (lamp_of r 11 0 256).answer ≡ 6) × (answer_number (lamp_of r 0 18 256).answer ≡ 6)
      × (answer_number (lamp_of r 10 17 256).answer ≡ 7) × (answer_number (lamp_of r 10 17 255).answer ≡ 0)
  unfolding setting_of changed_to setting_answer arguments_answer put_setting lamp_answer when_dot when_sound is_dot dot_in lines_of columns_of has_column
  lamp_answers = rw (sound, member, top) (refl, refl, refl, refl)

  -- "6: no such dot. 8: group above 3, state above 1."
  group_answers : (answer_number (group_of r 11 0 4).answer ≡ 6) × (answer_number (group_of r 0 0 4).answer ≡ 8) × (answer_number (group_of r 0 0 3).answer ≡ 0)
  unfolding setting_of changed_to setting_answer arguments_answer put_setting field_answer when_dot when_sound is_dot dot_in lines_of columns_of has_column
  group_answers = rw (sound, member) (refl, refl, refl)

  switch_answers : (answer_number (switch_of r 11 0 2).answer ≡ 6) × (answer_number (switch_of r 0 0 2).answer ≡ 8) × (answer_number (switch_of r 0 0 1).answer ≡ 0)
  unfolding setting_of changed_to setting_answer arguments_answer put_setting field_answer when_dot when_sound is_dot dot_in lines_of columns_of has_column
  switch_answers = rw (sound, member) (refl, refl, refl)

  -- "9: length under 2 or not 2 + 3 × n. Then all dot numbers, 6; then all levels, 7.": level 256 for dot 0 and dot 198 behind it
  scene_answers : (answer_number (scene_of r (0 ∷ [])).answer ≡ 9) × (answer_number (scene_of r (1 ∷ 0 ∷ 198 ∷ 0 ∷ [])).answer ≡ 9)
      × (answer_number (scene_of r (2 ∷ 0 ∷ 0 ∷ 198 ∷ 0 ∷ 1 ∷ 0 ∷ 0 ∷ [])).answer ≡ 6)
      × (answer_number (scene_of r (2 ∷ 0 ∷ 0 ∷ 197 ∷ 0 ∷ 1 ∷ 0 ∷ 0 ∷ [])).answer ≡ 7)
      × (answer_number (scene_of r (2 ∷ 0 ∷ 0 ∷ 197 ∷ 255 ∷ 0 ∷ 0 ∷ 0 ∷ [])).answer ≡ 0) × (answer_number (scene_of r (0 ∷ 0 ∷ [])).answer ≡ 0)
  unfolding setting_of changed_to setting_answer arguments_answer put_setting scene_answer when_sound scene_sized scene_word all_from scene_has_dot
      scene_dot scene_fits scene_level number_in dot_in lines_of columns_of has_column
  scene_answers = rw (sound, member, top) (refl, refl, refl, refl, refl, refl)

  -- "Each setting's promise equates the whole new image with the old one changed at the named bits": line 3, sink 14 is dot 68, its group
  -- two bits from bit 4 of 01Eh, its switch bit 6 of 04Dh
  dot_68_set : ((lamp_of r 3 14 0x40).host.settings ≡ put_level r.settings 68 0x40)
      × ((group_of r 3 14 2).host.settings ≡ set r.settings 0x01E (put_bits 4 2 (get_or r.settings 0x01E 0) 2))
      × ((switch_of r 3 14 0).host.settings ≡ set r.settings 0x04D (put_bits 6 1 (get_or r.settings 0x04D 0) 0))
  unfolding setting_of changed_to setting_answer arguments_answer put_setting lamp_answer field_answer when_dot when_sound is_dot dot_in lines_of columns_of has_column put_field address_of shift_of width_of
  dot_68_set = rw (sound, member, top) (refl, refl, refl)

  -- "Power lost: no bytes." "the chip image has reset values and the settings are kept"
  power_lost : (answer_number (power_lost_of r).answer ≡ 0) × ((power_lost_of r).host.image ≡ reset_image 0) × ((power_lost_of r).host.settings ≡ r.settings)
  unfolding power_lost_of sound_answer when_sound
  power_lost = rw (sound, member) (refl, refl, refl)

-- ---- The lock

-- document 02, Q-5: "a lock over these two", 003h and 004h
trims : map is_trim (0x002 ∷ 0x003 ∷ 0x004 ∷ 0x005 ∷ []) ≡ false ∷ true ∷ true ∷ false ∷ []
unfolding is_trim
trims = refl

-- bit 0 of the marks
lock_bit : map (λ (marks : ℕ). is_locked (header_of 0 0 0 marks)) (free ∷ locked ∷ []) ≡ false ∷ true ∷ []
unfolding is_locked
lock_bit = refl

-- the first five bytes of an image that is on, with 07h at an address
other : ℕ → List ℕ
other a = set (0x01 ∷ 0x5E ∷ 0x00 ∷ 0x57 ∷ 0x10 ∷ []) a 0x07

-- "a locked record whose images differ at these two is unsound", a free one is not; nor are there other marks
marks_tested : map (λ (a : ℕ). marks_ok (record_of (header_of 0 0 0 locked) (other 0) (other a))) (0x000 ∷ 0x002 ∷ 0x003 ∷ 0x004 ∷ []) ≡ true ∷ true ∷ false ∷ false ∷ []
unfolding other marks_ok is_locked same_trims
marks_tested = refl

marks_free : map (λ (marks : ℕ). marks_ok (record_of (header_of 0 0 0 marks) (other 3) (other 4))) (free ∷ locked ∷ 2 ∷ 255 ∷ []) ≡ true ∷ false ∷ false ∷ false ∷ []
unfolding other marks_ok is_locked same_trims
marks_free = refl

-- "The test of whether an address may be written now looks at the lock": 002h to 005h of a locked record, and of a free one
may_be_written : (map (may_write (header_of 0 0 0 locked)) (0x002 ∷ 0x003 ∷ 0x004 ∷ 0x005 ∷ []) ≡ true ∷ false ∷ false ∷ true ∷ [])
    × (map (may_write (header_of 0 0 0 free)) (0x002 ∷ 0x003 ∷ 0x004 ∷ 0x005 ∷ []) ≡ true ∷ true ∷ true ∷ true ∷ [])
unfolding may_write lock_keeps is_trim is_locked writable_of reserved_of reserved_as kind_of first_masks first_mask
may_be_written = (refl, refl)

-- "18, locking a locked record, or one whose chip image is off or differs from the settings at 003h or 004h."
lockable : (is_lockable (record_of (header_of 0 0 0 free) (other 1) (other 2)) ≡ true) × (is_lockable (record_of (header_of 0 0 0 locked) (other 1) (other 2)) ≡ false)
    × (is_lockable (record_of (header_of 0 0 0 free) (other 1) (set (other 1) 0x000 0x00)) ≡ false)
    × (is_lockable (record_of (header_of 0 0 0 free) (set (other 1) 0x000 0x00) (other 1)) ≡ true)
    × (is_lockable (record_of (header_of 0 0 0 free) (other 3) (other 1)) ≡ false) × (is_lockable (record_of (header_of 0 0 0 free) (other 1) (other 4)) ≡ false)
unfolding other is_lockable is_locked is_on same_trims
lockable = (refl, refl, refl, refl, refl, refl)

module _ (r : Record) (sound : sound_of r ≡ true) where
  -- "Answers: .. 18"
  lock_answers : (is_lockable r ≡ true → answer_number (lock_of r).answer ≡ 0) × (is_lockable r ≡ false → answer_number (lock_of r).answer ≡ 18)
  unfolding lock_of lock_answer when_sound
  lock_answers = (λ e. rw (sound, e) refl, λ e. rw (sound, e) refl)

  -- a sound LP5861T, whose 003h and 004h have reserved bits: "17, Register on a locked address, after 4 and before 5"
  module _ (member : r.header.member ≡ 1) where
    seventeen : is_locked r.header ≡ true → (answer_number (register_of r 0x003 0x57).answer ≡ 17) × (answer_number (register_of r 0x004 0x01).answer ≡ 17)
        × (answer_number (register_of r 0x0A9 0xFF).answer ≡ 4) × (answer_number (register_of r 0x002 0xFF).answer ≡ 5)
    unfolding setting_of changed_to setting_answer arguments_answer put_setting register_answer lock_keeps is_trim is_locked when_sound ok_byte writable_of reserved_of reserved_as kind_of
        lines_of columns_of has_column dot_in number_in first_masks first_mask pwm_reserved reset_of reset_as first_reset
    seventeen e = rw (sound, member, e) (refl, refl, refl, refl)

    unlocked : is_locked r.header ≡ false → (answer_number (register_of r 0x003 0x57).answer ≡ 5) × (answer_number (register_of r 0x003 0x54).answer ≡ 0)
    unfolding setting_of changed_to setting_answer arguments_answer put_setting register_answer lock_keeps is_trim is_locked when_sound ok_byte writable_of reserved_of reserved_as kind_of
        lines_of columns_of has_column dot_in number_in first_masks first_mask pwm_reserved reset_of reset_as first_reset
    unlocked e = rw (sound, member, e) (refl, refl)

  -- "Reset and Power lost release it": a loss of power leaves no mark, whatever there was
  released : (power_lost_of r).host.header.marks ≡ free
  unfolding power_lost_of sound_answer when_sound
  released = rw sound refl

-- ---- Scenes

-- "a count n of two bytes, then n dot numbers of one byte, then n levels of two bytes, all low byte first": dots 5 and 197
scene : List ℕ
scene = 0x02 ∷ 0x00 ∷ 0x05 ∷ 0xC5 ∷ 0x34 ∷ 0x12 ∷ 0xFF ∷ 0x00 ∷ []

scene_read : (scene_word scene 0 ≡ 2) × (map (scene_dot scene) (0 ∷ 1 ∷ []) ≡ 5 ∷ 197 ∷ []) × (map (scene_level scene) (0 ∷ 1 ∷ []) ≡ 0x1234 ∷ 255 ∷ [])
unfolding scene_dot scene_level scene_word scene
scene_read = (refl, refl, refl)

-- "It acts as n Lamp calls in order; a dot twice takes the last level": dot 68 at 244h, 11h and then 22h, in data mode 1
last_level_stands :
    put_scene (0x02 ∷ 0x00 ∷ 0x44 ∷ 0x44 ∷ 0x11 ∷ 0x00 ∷ 0x22 ∷ 0x00 ∷ []) (0x01 ∷ 0x5A ∷ (replicate 0x242 0x55 ++ (0x55 ∷ 0x55 ∷ []))) 2
    ≡ 0x01 ∷ 0x5A ∷ (replicate 0x242 0x55 ++ (0x22 ∷ 0x55 ∷ []))
unfolding put_scene scene_dot scene_level scene_word put_level wide_of is_wide data_mode
last_level_stands = refl
