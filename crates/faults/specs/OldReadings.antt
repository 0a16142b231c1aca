-- Document 01's readings, before there were untested lamps, and the records of which they still hold.
-- Assumes nothing.
use Rattle.std.specs.Prelude.{◌≡◌, Bool, true, false, cond, List, ℕ, ◌≤◌}
use Rattle.map.specs.declared.dots.Field.TheVariants.{Open, Short}
use Rattle.dots.specs.Dots.{wide_of, level_of}
use Rattle.host.specs.declared.Record.{Record}
use Rattle.faults.specs.Faults.{is_set, has_dot, tested_from}

-- "0 sound, 1 open, 2 short, 3 both": a lamp by its open bit and its short bit alone
unfoldable pub by_bits : Bool → Bool → ℕ
by_bits false false = 0
by_bits true false = 1
by_bits false true = 2
by_bits true true = 3

-- "4 no such dot"
unfoldable pub bits_reading : ℕ → List ℕ → ℕ → ℕ
bits_reading m bytes d = cond (has_dot m d) (by_bits (is_set Open bytes d) (is_set Short bytes d)) 4

-- every lamp that the record's member has is at or above the figure, in the chip image and its own data mode
abbrev pub NoneDim : Record → Type 0
NoneDim r = (d : ℕ) → has_dot r.header.member d ≡ true → tested_from (wide_of r.image) ≤ level_of r.image d
