-- The table of document 01's starred bench examples and of the fixed strings, Clear's as of document 02, computed from the definitions:
-- `starred`.
-- Assumes nothing.
use Rattle.std.specs.Prelude.{◌≡◌, refl, Some, List, [], ◌∷◌, map, ℕ, ◌≤◌, length, get_or, set, replicate}
use Rattle.std.proofs.Common.{sym, arith}
use Rattle.map.specs.declared.dots.Field.TheVariants.{Current}
use Rattle.map.specs.Refusals.{answer_number, open_answer, opens}
use Rattle.map.specs.Map.{lines_of, columns_of, has_column, dot_in, is_dot, number_in, dot_number, kind_of, address_of, shift_of, place_as, place_of, line_number, data_mode, is_wide, first_masks, first_mask, no_sink, group_mask, switch_mask, group_reserved, switch_reserved, current_reserved, pwm_reserved, reserved_as, reserved_of, writable_of, first_reset, switch_bytes_of, switch_reset, current_reset, reset_as, reset_of}
use Rattle.map.specs.Lists.{all_from, table_from, table}
use Rattle.map.specs.Images.{ok_byte, ok_at, image_ok, reset_image}
use Rattle.burst.specs.Burst.{byte_at, size16, n_of, lengths_from, lengths, cut_from, transactions, head_first, head_second, transaction_of, list_of, encode}
use Rattle.plan.specs.Plan.{scan, plan}
use Rattle.plan.specs.Update.{update_for, write_of}
use Rattle.dots.specs.Dots.{wide_of, top_level, put_level}
use Rattle.calls.specs.declared.Setting.{Setting}
use Rattle.calls.specs.declared.Setting.TheVariants.{Register, Lamp}
use Rattle.calls.specs.declared.Request.TheVariants.{Set, Update}
use Rattle.host.specs.declared.Record.{Record}
use Rattle.host.specs.Record.{header_of, record_of, free, locked, is_trim, is_locked, lock_keeps, may_write, marks_ok, sound_of, when_sound, opened, open_host, open_of, register_answer, when_dot, lamp_answer, arguments_answer, setting_answer, put_setting, changed_to, setting_of, lamp_of}
use Rattle.host.proofs.SoundLaws.{is_sound, open_sound}
use Rattle.update.specs.Update.{list_size, over, Sending, send_answer, send_buffer, writes_of, resetting, reset_buffer, clearing, clear_buffer}
use Rattle.update.specs.SendLaws.{send_listed}
use Rattle.history.specs.Step.{step_of}
use Rattle.demand.specs.Events.{Event, call, world_after}

-- a setting, with nothing lent
abbrev setting : Setting → Event
setting q = call (record { request = Set q; lent = [] })

-- "000h = 01h, 001h = 58h, Lamp (0, 2, 40h)"
abbrev calls : List Event
calls = setting (Register 0x000 0x01) ∷ setting (Register 0x001 0x58) ∷ setting (Lamp 0 2 0x40) ∷ []

-- the buffer after an Update that follows on these calls
abbrev updated : ℕ → List ℕ
updated bus = (step_of (world_after 0 bus 0 calls) Update (replicate 19 0)).lent

-- "03 00 09 00 03 00 03 00 03 00 80 00 01 80 01 58 84 02 40 (hexadecimal)"
abbrev bench_list : List ℕ
bench_list =
    0x03 ∷ 0x00 ∷ 0x09 ∷ 0x00 ∷ 0x03 ∷ 0x00 ∷ 0x03 ∷ 0x00 ∷ 0x03 ∷ 0x00
    ∷ 0x80 ∷ 0x00 ∷ 0x01 ∷ 0x80 ∷ 0x01 ∷ 0x58 ∷ 0x84 ∷ 0x02 ∷ 0x40 ∷ []

-- "00 20 01, 00 60 58, 80 A0 40"
abbrev bench_transactions : List (List ℕ)
bench_transactions = (0x00 ∷ 0x20 ∷ 0x01 ∷ []) ∷ (0x00 ∷ 0x60 ∷ 0x58 ∷ []) ∷ (0x80 ∷ 0xA0 ∷ 0x40 ∷ []) ∷ []

-- an LP5860 that is on, of which only the registers 202h and a differ
abbrev differing : ℕ → Record
differing a = record_of (header_of 0 0 0 free) (set (set (set (reset_image 0) 0x000 0x01) 0x202 0x11) a 0x22) (set (reset_image 0) 0x000 0x01)

-- Q-5: one with these marks that is on, of which only 002h and 005h differ, on either side of the factory-set registers
abbrev beside : ℕ → Record
beside marks = record_of (header_of 0 0 0 marks) (set (set (set (reset_image 0) 0x000 0x01) 0x002 0x02) 0x005 0x80) (set (reset_image 0) 0x000 0x01)

-- the settings of a new LP5860 with v at 001h and a level for the dot at line l, sink s
abbrev lit : ℕ → ℕ → ℕ → ℕ → List ℕ
lit v l s level = put_level (set (reset_image 0) 0x001 v) (dot_number l s) level

-- a new LP5860 with pins 0 on a bus
abbrev fresh : ℕ → Record
fresh bus = (open_of 0 bus 0).host

-- the command strings of a record with pins 0, on I2C and on SPI
pub record FixedBytes : Type 0 where
  -- "One write of FFh to 0A9h; its 9 list bytes"
  pub reset_i2c : reset_buffer (fresh 0) (replicate 9 0) ≡ 0x01 ∷ 0x00 ∷ 0x03 ∷ 0x00 ∷ 0x03 ∷ 0x00 ∷ 0x80 ∷ 0xA9 ∷ 0xFF ∷ []
  pub reset_spi : reset_buffer (fresh 1) (replicate 9 0) ≡ 0x01 ∷ 0x00 ∷ 0x03 ∷ 0x00 ∷ 0x03 ∷ 0x00 ∷ 0x2A ∷ 0x60 ∷ 0xFF ∷ []
  -- "one write of 0Fh 0Fh from 0A7h, four bus bytes. It needs a buffer of 10 bytes"
  pub clear_i2c : clear_buffer (fresh 0) (replicate 10 0) ≡ 0x01 ∷ 0x00 ∷ 0x04 ∷ 0x00 ∷ 0x04 ∷ 0x00 ∷ 0x80 ∷ 0xA7 ∷ 0x0F ∷ 0x0F ∷ []
  pub clear_spi : clear_buffer (fresh 1) (replicate 10 0) ≡ 0x01 ∷ 0x00 ∷ 0x04 ∷ 0x00 ∷ 0x04 ∷ 0x00 ∷ 0x29 ∷ 0xE0 ∷ 0x0F ∷ 0x0F ∷ []

pub record Starred : Type 0 where
  -- "5Eh at 001h: 11 lines, mode 3."
  pub lines_of_5_e : line_number 0x5E ≡ 11
  pub mode_of_5_e : data_mode 0x5E ≡ 3
  -- "000h = 01h, 001h = 58h, Lamp (0, 2, 40h), Update:" the list
  pub i2c_list : updated 0 ≡ bench_list
  -- "SPI transactions of the same:"
  pub spi_transactions : transactions (updated 1) ≡ bench_transactions
  -- "Chip on, only 202h and 205h differ: one write of 4 data bytes."
  pub one_write : writes_of (differing 0x205) ≡ record { start = 0x202; bytes = 0x11 ∷ 0x00 ∷ 0x00 ∷ 0x22 ∷ [] } ∷ []
  -- "Only 202h and 206h: two writes."
  pub two_writes : writes_of (differing 0x206)
      ≡ record { start = 0x202; bytes = 0x11 ∷ [] } ∷ record { start = 0x206; bytes = 0x22 ∷ [] } ∷ []
  -- Q-5: one write of 002h to 005h with the factory-set registers as they are, and
  pub bridge : map write_of (writes_of (beside free)) ≡ record { start = 0x002; len = 4 } ∷ []
  -- "no bridge may run across a locked address": two writes, of as many bus bytes together
  pub no_bridge : writes_of (beside locked) ≡ record { start = 0x002; bytes = 0x02 ∷ [] } ∷ record { start = 0x005; bytes = 0x80 ∷ [] } ∷ []
  -- "Line 4, sink 1: 16 bits at 292h, 293h."
  pub low_at_292 : get_or (lit 0x5E 4 1 0x1234) 0x292 0 ≡ 0x34
  pub high_at_293 : get_or (lit 0x5E 4 1 0x1234) 0x293 0 ≡ 0x12
  -- "Line 8, sink 2: 8 bits at 292h."
  pub byte_at_292 : get_or (lit 0x58 8 2 0x34) 0x292 0 ≡ 0x34
  -- "LP5867 line 2, sink 8: current at 12Ch."
  pub current_at_12_c : place_of Current 3 2 8 ≡ Some (record { address = 0x12C; shift = 0 })
  -- "Sink 2: refusal 6."
  pub sink_2_refused : answer_number (lamp_of (open_of 3 0 0).host 2 2 0).answer ≡ 6
  -- the fixed command strings
  pub fixed_bytes : FixedBytes

-- (the two that go through every call stand apart, since each takes some memory to compute)
bench_i2c : updated 0 ≡ bench_list
unfolding open_answer opens lines_of columns_of has_column dot_in is_dot number_in kind_of data_mode is_wide first_masks first_mask no_sink group_mask switch_mask group_reserved switch_reserved current_reserved pwm_reserved reserved_as reserved_of writable_of first_reset switch_bytes_of switch_reset current_reset reset_as reset_of all_from table_from table ok_byte ok_at image_ok reset_image head_first head_second transaction_of list_of encode scan plan update_for wide_of top_level put_level sound_of marks_ok may_write lock_keeps is_trim is_locked when_sound opened open_host open_of register_answer when_dot lamp_answer arguments_answer setting_answer put_setting changed_to setting_of writes_of send_answer send_buffer
bench_i2c = refl

bench_spi : transactions (updated 1) ≡ bench_transactions
unfolding open_answer opens lines_of columns_of has_column dot_in is_dot number_in kind_of data_mode is_wide first_masks first_mask no_sink group_mask switch_mask group_reserved switch_reserved current_reserved pwm_reserved reserved_as reserved_of writable_of first_reset switch_bytes_of switch_reset current_reset reset_as reset_of all_from table_from table ok_byte ok_at image_ok reset_image byte_at size16 n_of lengths_from lengths cut_from transactions head_first head_second transaction_of list_of encode scan plan update_for wide_of top_level put_level sound_of marks_ok may_write lock_keeps is_trim is_locked when_sound opened open_host open_of register_answer when_dot lamp_answer arguments_answer setting_answer put_setting changed_to setting_of writes_of send_answer send_buffer
bench_spi = refl

-- a new record is sound, so that what it sends is listed where the buffer has room
command_bytes : (bus : ℕ) (x : Sending) (buffer : List ℕ) → list_size x.writes ≤ length buffer →
    send_buffer (fresh bus) x buffer ≡ over (encode (fresh bus).header.bus (fresh bus).header.pins x.writes) buffer
command_bytes bus x buffer h = sym (send_listed (fresh bus) x buffer (is_sound (fresh bus) (open_sound 0 bus 0)) h).buffer_is

fixed : FixedBytes
unfolding open_answer opens opened open_host open_of head_first head_second transaction_of list_of encode
fixed = record {
  reset_i2c = command_bytes 0 (resetting (fresh 0)) (replicate 9 0) (omega arith);
  reset_spi = command_bytes 1 (resetting (fresh 1)) (replicate 9 0) (omega arith);
  clear_i2c = command_bytes 0 (clearing (fresh 0)) (replicate 10 0) (omega arith);
  clear_spi = command_bytes 1 (clearing (fresh 1)) (replicate 10 0) (omega arith);
}

pub starred : Starred
unfolding open_answer opens lines_of columns_of has_column dot_in is_dot number_in kind_of address_of shift_of place_as place_of line_number data_mode is_wide first_masks first_mask no_sink group_mask switch_mask group_reserved switch_reserved current_reserved pwm_reserved reserved_as reserved_of writable_of first_reset switch_bytes_of switch_reset current_reset reset_as reset_of all_from table_from table ok_byte ok_at image_ok reset_image scan plan update_for wide_of top_level put_level sound_of marks_ok may_write lock_keeps is_trim is_locked when_sound opened open_host open_of when_dot lamp_answer arguments_answer setting_answer changed_to setting_of writes_of
starred = record {
  lines_of_5_e = refl;
  mode_of_5_e = refl;
  i2c_list = bench_i2c;
  spi_transactions = bench_spi;
  one_write = refl;
  two_writes = refl;
  bridge = refl;
  no_bridge = refl;
  low_at_292 = refl;
  high_at_293 = refl;
  byte_at_292 = refl;
  current_at_12_c = refl;
  sink_2_refused = refl;
  fixed_bytes = fixed;
}
