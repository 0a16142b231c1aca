-- What a scan goes by: a mark for each address, as in document 01's plan.
-- Assumes nothing.
use Rattle.std.specs.Prelude.{◌≡◌, true, ℕ, ◌<◌, length, get_or}
use Rattle.plan.specs.Plan.{Mark}
use Rattle.plan.specs.Update.{value_at, View, seen, marks_for}
use Rattle.host.specs.declared.Record.{Record}
use Rattle.host.specs.Record.{may_write}

-- what a host knows of its chip: it has the bytes of the chip image
abbrev pub chip_view : Record → View
chip_view r = seen (value_at r.settings) (value_at r.image)

-- what each address is to an update: by whether it may be written, and whether it has the wanted byte for certain
abbrev pub marks_of : Record → ℕ → Mark
marks_of r = marks_for (may_write r.header) (chip_view r).same

-- two images of 908 bytes that differ only where an address may be written
pub record Whole (r : Record) : Type 0 where
  pub settings_size : length r.settings ≡ 908
  pub image_size : length r.image ≡ 908
  pub may : (a : ℕ) → a < 908 → (get_or r.settings a 0 ≡ get_or r.image a 0 → ⊥) → may_write r.header a ≡ true
