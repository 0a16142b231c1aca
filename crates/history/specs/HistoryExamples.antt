-- Answers, lists and the ledger of a history, computed.
-- Assumes nothing.
use Rattle.std.specs.Prelude.{◌≡◌, refl, true, false, List, [], ◌∷◌, map, ℕ, get_or, replicate}
use Rattle.map.specs.Refusals.{numbers_in, numbers_of}
use Rattle.map.specs.Map.{lines_of, columns_of, has_column, dot_in, is_dot, number_in, kind_of, address_of, shift_of, width_of, data_mode, is_wide, first_masks, first_mask, pwm_reserved, reserved_as, reserved_of, writable_of, first_reset, switch_bytes_of, switch_reset, current_reset, reset_as, reset_of}
use Rattle.map.specs.Lists.{table_from, table}
use Rattle.map.specs.Images.{ok_byte, image_ok, reset_image}
use Rattle.burst.specs.Burst.{byte_at, size16, n_of, t_of, lengths_from, lengths, cut_from, transactions, lengths_good, sizes_good, head_first, head_second, head_address, head_writes, head_select, transaction_of, list_of, encode}
use Rattle.dots.specs.Dots.{wide_of, top_level, put_level, put_bits, put_field}
use Rattle.calls.specs.declared.Setting.{Setting}
use Rattle.calls.specs.declared.Setting.TheVariants.{Register, Lamp, Group, Switch}
use Rattle.calls.specs.declared.Request.{Request}
use Rattle.calls.specs.declared.Request.TheVariants.{Set, Reset, PowerLost, Update, Lock}
use Rattle.host.specs.declared.Record.{Record}
use Rattle.host.specs.Record.{sound_of, put_setting, lock_of}
use Rattle.update.specs.Update.{listed, short, send_answer, send_of, send_buffer}
use Rattle.chip.specs.Chip.{chip_of, feed_answer, selected, decode_of, heard, is_command, lod_clear, lsd_clear, heard_byte, hear_byte, hear_data, hear, apply, apply_all, feed_of}
use Rattle.history.specs.declared.World.{World}
use Rattle.history.specs.declared.CallAnswer.{CallAnswer}
use Rattle.history.specs.declared.CallAnswer.TheVariants as answers
use Rattle.history.specs.Ledger.{register_meets, lamp_meets, field_meets, setting_meets, Told, told_of, ledger, wants_on, opened_ledger, entered_of}
use Rattle.history.specs.Step.{call_numbers, answers_locked, list_in, step_of, clear_step}

-- "a definition states this paper's number and values for each case of the enum"
call_answers : List CallAnswer
call_answers =
    answers.Setting (numbers_of (6 ∷ []))
    ∷ answers.List (listed 1 3)
    ∷ answers.Update (listed 3 9) 3
    ∷ answers.Update (short 19) 0
    ∷ []

numbers_and_values : map (λ (x : CallAnswer). numbers_in (call_numbers x)) call_answers
    ≡ (6 ∷ []) ∷ (0 ∷ 1 ∷ 3 ∷ []) ∷ (0 ∷ 3 ∷ 9 ∷ 3 ∷ []) ∷ (10 ∷ 19 ∷ []) ∷ []
unfolding call_answers numbers_in numbers_of
numbers_and_values = refl

-- Q-5: "the ledger is told of each 17, of no other answer": not of 18, of 4, of 0, nor of a list of 17 transactions
seventeens : map answers_locked (answers.Setting (numbers_of (17 ∷ [])) ∷ answers.Setting (numbers_of (18 ∷ [])) ∷ answers.Setting (numbers_of (4 ∷ [])) ∷ answers.Setting (numbers_of (0 ∷ [])) ∷ answers.List (listed 17 51) ∷ [])
    ≡ true ∷ false ∷ false ∷ false ∷ false ∷ []
unfolding answers_locked numbers_of
seventeens = refl

-- the list of n = 1 and t = 3 is the first "4 + 2n + t" bytes of the buffer
list_in_front : list_in 1 3 (1 ∷ 2 ∷ 3 ∷ 4 ∷ 5 ∷ 6 ∷ 7 ∷ 8 ∷ 9 ∷ 10 ∷ []) ≡ 1 ∷ 2 ∷ 3 ∷ 4 ∷ 5 ∷ 6 ∷ 7 ∷ 8 ∷ 9 ∷ []
list_in_front = refl

-- a setting and Power lost leave the lent bytes as they were: a scene's too
lent_stays : (w : World) (q : Setting) (lent : List ℕ) → ((step_of w (Set q) lent).lent ≡ lent) × ((step_of w PowerLost lent).lent ≡ lent)
lent_stays w q lent = (refl, refl)

-- "at Power lost the chip loses power.": whatever it held, and whatever the record answers
power_gone : (host : Record) (registers lent : List ℕ) → (step_of (record { host = host; chip = chip_of 3 0 1 registers }) PowerLost lent).world.chip ≡ chip_of 3 0 1 (reset_image 3)
unfolding Rattle.chip.specs.Chip.power_lost_of
power_gone host registers lent = refl

-- Q-5, "With locking in demand 3's list": the record behind a Lock is the one that Lock returns, and the chip stays
lock_kept : (w : World) (lent : List ℕ) → ((step_of w Lock lent).world.host ≡ (lock_of w.host).host) × ((step_of w Lock lent).world.chip ≡ w.chip)
lock_kept w lent = (refl, refl)

-- "Chip enable is wanted on when bit 0 of the ledger's 000h is 1."
wanted_on : (wants_on (0xFF ∷ 0x00 ∷ []) ≡ true) × (wants_on (0xFE ∷ 0xFF ∷ []) ≡ false)
wanted_on = (refl, refl)

-- "The ledger has the member that the accepted Open was given, and 908 bytes, which begin at that member's reset values."
new_ledger : opened_ledger 4 ≡ record { member = 4; bytes = reset_image 4 }
unfolding opened_ledger
new_ledger = refl

-- where Open refuses the member, that of the record that it returns
refused_ledger : opened_ledger 5 ≡ record { member = 0; bytes = reset_image 0 }
unfolding opened_ledger
refused_ledger = refl

-- bytes that no ledger holds stay as they are, whatever the call
no_ledger : (x : Told) → entered_of (record { member = 5; bytes = 0x07 ∷ [] }) x ≡ record { member = 5; bytes = 0x07 ∷ [] }
unfolding entered_of image_ok
no_ledger x = refl

-- calls with nothing lent
abbrev plain : Request → Told
plain request = told_of request [] false

abbrev setting : Setting → Told
setting q = plain (Set q)

-- document 01's second bench example and the last dot, then settings that fail their conditions and calls that set nothing: 38Ch is not
-- writable, 02h at 000h has a reserved bit set, 256 is no level of 8 bits, 4 no group, 2 no state. Then three Registers of which the second was
-- answered 17: "such a Register changes nothing there".
calls : List Told
calls =
    setting (Register 0x000 0x01) ∷ setting (Register 0x001 0x58) ∷ setting (Lamp 0 2 0x40)
    ∷ setting (Lamp 10 17 255) ∷ setting (Group 10 17 3) ∷ setting (Switch 10 16 1) ∷ setting (Switch 10 17 0)
    ∷ setting (Register 0x38C 0x01) ∷ setting (Register 0x000 0x02) ∷ setting (Lamp 0 2 256) ∷ setting (Group 10 16 4) ∷ setting (Switch 10 16 2)
    ∷ plain Update ∷ plain Reset ∷ plain PowerLost ∷ plain Lock
    ∷ setting (Register 0x003 0x54) ∷ told_of (Set (Register 0x003 0x00)) [] true ∷ told_of (Set (Register 0x004 0x00)) [] false ∷ []

settings_asked : map (λ (a : ℕ). get_or (ledger 0 calls) a 0) (0x000 ∷ 0x001 ∷ 0x202 ∷ 0x203 ∷ 0x2C5 ∷ 0x042 ∷ 0x063 ∷ 0x003 ∷ 0x004 ∷ [])
    ≡ 0x01 ∷ 0x58 ∷ 0x40 ∷ 0x00 ∷ 0xFF ∷ 0x0C ∷ 0x01 ∷ 0x54 ∷ 0x00 ∷ []
unfolding calls setting_meets put_setting register_meets lamp_meets field_meets ok_byte writable_of reserved_of reserved_as kind_of lines_of columns_of has_column dot_in is_dot number_in address_of shift_of width_of data_mode is_wide first_masks first_mask pwm_reserved wide_of top_level put_level put_bits put_field reset_image table table_from reset_of reset_as first_reset switch_bytes_of switch_reset current_reset
settings_asked = refl

-- ---- Clear

-- a record and a chip that are sound, on I2C with pins 0, and the chip is on
module _ (w : World) (sound : sound_of w.host ≡ true) (bus : w.host.header.bus ≡ 0) (pins : w.host.header.pins ≡ 0)
    (chip_sound : Rattle.chip.specs.Chip.sound_of w.chip ≡ true) (chip-bus : w.chip.bus ≡ 0) (chip-pins : w.chip.pins ≡ 0)
    (on : get_or w.chip.registers 0x000 0 ≡ 0x01) where
  -- "one write of 0Fh 0Fh from 0A7h": its list puts out the open bits and then the short bits, and the record stays
  faults_cleared : ((clear_step w (replicate 10 0xA5)).world.chip.registers ≡ lsd_clear (lod_clear w.chip.registers)) × ((clear_step w (replicate 10 0xA5)).world.host ≡ w.host)
  unfolding send_of send_answer send_buffer encode list_of transaction_of head_first head_second feed_of feed_answer sizes_good lengths_good transactions cut_from lengths lengths_from n_of t_of size16 byte_at apply_all apply decode_of selected head_address head_writes head_select hear hear_data hear_byte heard_byte heard is_command
  faults_cleared = rw (sound, bus, pins, chip_sound, chip-bus, chip-pins, on) (refl, refl)
