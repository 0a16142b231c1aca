-- The two passes of the code: the readings by the bits alone, line by line, and then the dim lamps.
-- Assumes nothing.
use Rattle.std.specs.Prelude.{◌≡◌, Bool, cond, List, ℕ, ◌≤◌, ltb, eqb, length, get_or}
use Rattle.map.specs.declared.dots.Field.TheVariants.{Open, Short}
use Rattle.map.specs.Lists.{filled}
use Rattle.faults.specs.Faults.{is_dim, some_below, is_faulty}
use Rattle.faults.specs.OldReadings.{bits_reading}

-- the first d dots are read by their bits into the old buffer, and the open and the short ones among them are counted
pub record ReadTo (m : ℕ) (bytes old result : List ℕ) (opens shorts d : ℕ) : Type 0 where
  pub within : d ≤ 198
  pub room : length result ≡ length old
  pub stored : result ≡ filled (bits_reading m bytes) 0 d old
  pub opens_few : opens ≤ d
  pub shorts_few : shorts ≤ d
  pub opens_some : ltb 0 opens ≡ some_below (is_faulty Open m bytes) d
  pub shorts_some : ltb 0 shorts ≡ some_below (is_faulty Short m bytes) d

-- a reading by the bits; 0, that of a lamp with clear bits, becomes 5 where the lamp is dim
unfoldable pub unless_dim : Bool → ℕ → ℕ
unless_dim dim reading = cond (eqb reading 0) (cond dim 5 0) reading

-- that of dot d in a buffer of readings by the bits
unfoldable pub tested_at : List ℕ → List ℕ → ℕ → ℕ
tested_at image result d = unless_dim (is_dim image d) (get_or result d 0)
