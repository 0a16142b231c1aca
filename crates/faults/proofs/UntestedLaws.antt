-- Dim lamps: with none the readings are those by the bits alone, and what does not see them.
-- Assumes nothing.
use Rattle.std.specs.Prelude.{◌≡◌, Bool, ◌⊎◌, List, ℕ, ◌<◌, ◌≤◌}
use Rattle.std.proofs.Math.Path.{refl}
use Rattle.std.proofs.Common.{sym, inl, inr}
use Rattle.std.proofs.Math.Bool.{true, false}
use Rattle.std.proofs.lemmas.Bool.{false≢true}
use borrow.Author.Tests.{lt-ltb, le-ltb}
use Rattle.map.specs.declared.dots.Field.TheVariants.{Open, Short}
use Rattle.map.specs.Lists.{filled}
use Rattle.dots.specs.Dots.{wide_of, level_of}
use Rattle.host.specs.declared.Record.{Record}
use Rattle.host.specs.Record.{sound_of, when_sound}
use Rattle.faults.specs.Faults.{tested_from, is_dim, is_set, has_dot, lamp_reading, reading, readings, faults_checked, faults_answer}
use Rattle.faults.proofs.FaultLaws.{filled_same}
use Rattle.faults.specs.OldReadings.{by_bits, bits_reading, NoneDim}

-- ---- a lamp at or above the figure, and one below it

module _ (image : List ℕ) (d : ℕ) where
  pub bright : tested_from (wide_of image) ≤ level_of image d → is_dim image d ≡ false
  unfolding is_dim
  bright h = le-ltb (level_of image d) (tested_from (wide_of image)) h

  pub dim : level_of image d < tested_from (wide_of image) → is_dim image d ≡ true
  unfolding is_dim
  dim h = lt-ltb (level_of image d) (tested_from (wide_of image)) h

-- ---- the reading of a lamp

-- a lamp that is not dim, or has a bit set
by_its_bits : (dim o s : Bool) → (dim ≡ false) ⊎ ((o ≡ true) ⊎ (s ≡ true)) → lamp_reading o s dim ≡ by_bits o s
unfolding lamp_reading by_bits
by_its_bits dim true false h = refl
by_its_bits dim false true h = refl
by_its_bits dim true true h = refl
by_its_bits false false false h = refl
by_its_bits true false false (inl e) = absurd (false≢true (sym e))
by_its_bits true false false (inr (inl e)) = absurd (false≢true e)
by_its_bits true false false (inr (inr e)) = absurd (false≢true e)

module _ (m : ℕ) (image bytes : List ℕ) (d : ℕ) where
  as_before : (is_dim image d ≡ false) ⊎ ((is_set Open bytes d ≡ true) ⊎ (is_set Short bytes d ≡ true)) → reading m image bytes d ≡ bits_reading m bytes d
  unfolding reading bits_reading
  as_before h = rw (by_its_bits (is_dim image d) (is_set Open bytes d) (is_set Short bytes d) h) refl

  -- one that is not dim reads as by its bits
  pub bright_reads : is_dim image d ≡ false → reading m image bytes d ≡ bits_reading m bytes d
  bright_reads e = as_before (inl e)

  -- "A set bit reads as before.": however dim the lamp is
  pub set_reads : (is_set Open bytes d ≡ true) ⊎ (is_set Short bytes d ≡ true) → reading m image bytes d ≡ bits_reading m bytes d
  set_reads h = as_before (inr h)

  -- "So does an absent dot."
  pub absent_as_before : has_dot m d ≡ false → reading m image bytes d ≡ bits_reading m bytes d
  unfolding reading bits_reading
  absent_as_before e = rw e refl

-- ---- the whole buffer

module _ (r : Record) (bytes result : List ℕ) where
  -- with no dim lamp the readings are the old ones, those by the bits alone
  pub none_dim : NoneDim r → readings r bytes result ≡ filled (bits_reading r.header.member bytes) 0 198 result
  unfolding readings
  none_dim h = filled_same _ _ 198 result (λ d u. go d (has_dot r.header.member d) refl)
    where
      go : (d : ℕ) (b : Bool) → has_dot r.header.member d ≡ b →
          reading r.header.member r.image bytes d ≡ bits_reading r.header.member bytes d
      go d true e = bright_reads r.header.member r.image bytes d (bright r.image d (h d e))
      go d false e = absent_as_before r.header.member r.image bytes d e

-- ---- what does not see the levels, and what does not see the settings

-- of two sound records of one member the answers are the same, whatever their levels are
pub same_answers : (r q : Record) (bytes result : List ℕ) → sound_of r ≡ true → sound_of q ≡ true → r.header.member ≡ q.header.member →
    faults_answer r bytes result ≡ faults_answer q bytes result
unfolding faults_answer faults_checked when_sound
same_answers r q bytes result er eq em = rw (er, eq, em) refl

-- and with one chip image the readings are the same, whatever their settings are
pub same_readings : (r q : Record) (bytes result : List ℕ) → r.header.member ≡ q.header.member → r.image ≡ q.image →
    readings r bytes result ≡ readings q bytes result
unfolding readings
same_readings r q bytes result em ei = rw (em, ei) refl
