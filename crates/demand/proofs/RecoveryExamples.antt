-- A failure, computed: the premises of `RecoveredLists` are met by a chip that the record does not believe.
-- Assumes nothing.
use Rattle.std.specs.Prelude.{◌≡◌, refl, true, List, [], ◌∷◌, ℕ, get_or, replicate}
use Rattle.std.proofs.Common.{arith}
use Rattle.map.specs.Refusals.{open_answer, opens}
use Rattle.map.specs.Map.{kind_of, first_masks, first_mask, reserved_as, reserved_of, first_reset, reset_as, reset_of}
use Rattle.map.specs.Lists.{table_from, table}
use Rattle.map.specs.Images.{reset_image}
use Rattle.host.specs.Record.{opened, open_host, open_of}
use Rattle.chip.specs.Chip.{chip_of, sound_of, merged, heard, put_byte, is_command, heard_byte, hear_byte, hear_data, hear}
use Rattle.chip.specs.ChipLaws.{reset_registers, hear_registers, is_sound}
use Rattle.demand.specs.Events.{Event}
use Rattle.demand.specs.Demand.{Demand3}
use Rattle.demand.specs.Recovery.{failed, reset_world}
use Rattle.demand.proofs.RecoveryLaws.{reset_accepted, recovered_lists}

-- An LP5860 at reset values that heard 01h at 000h: it is on.
on : List ℕ
on = hear 0 (reset_image 0) (record { start = 0x000; bytes = 0x01 ∷ [] })

-- it is a sound chip on I2C with pins 0,
on_sound : sound_of (chip_of 0 0 0 on) ≡ true
unfolding on opens open_answer
on_sound = is_sound (chip_of 0 0 0 on) (record { opened = refl; registers = hear_registers 0 (reset_image 0) _ (reset_registers 0 (omega arith)) })

-- and a record that was just opened believes that it is off
on_unknown : (get_or (failed 0 0 0 [] on).chip.registers 0x000 0 ≡ 0x01) × (get_or (failed 0 0 0 [] on).host.image 0x000 0 ≡ 0x00)
unfolding on hear hear_data hear_byte heard_byte heard is_command put_byte reset_image table table_from reset_of reset_as first_reset reserved_of reserved_as first_masks first_mask kind_of open_of open_host opened open_answer merged
on_unknown = (refl, refl)

-- A Reset with a buffer of nine bytes mends it.
on_recovers : (behind : List Event) → Demand3 0 0 0 (reset_image 0) (reset_world (failed 0 0 0 [] on) (replicate 9 0xA5)) behind
unfolding open_of open_answer
on_recovers = recovered_lists 0 0 0 refl [] on on_sound (replicate 9 0xA5) 1 3 (reset_accepted 0 0 0 refl [] on (replicate 9 0xA5) (omega arith))
