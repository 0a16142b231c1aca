-- What a setting enters into the ledger.
-- Assumes nothing.
use mathlib.Core.Path.{◌≡◌, refl, ap, ap₂, ◌∙◌}
use mathlib.Core.Bool.{Bool, true, false, cond, ◌&&◌}
use mathlib.Core.List.{List}
use Prim.Native.Nat.{ℕ, ◌<◌}
use native.Mathlib.Decide.{dec_lt}
use native.Mathlib.Omega.{arith}
use borrow.Author.Tests.{lt-ltb, le-ltb}
use Rattle.map.specs.Refusals.{opens}
use Rattle.map.specs.RefusalLaws.{open_i2c, open_member}
use Rattle.map.specs.Images.{image_ok}
use Rattle.calls.specs.declared.Setting.{Setting}
use Rattle.calls.specs.declared.Request.TheVariants.{Set}
use Rattle.host.specs.declared.Changed.{Changed}
use Rattle.host.specs.Record.{header_of, record_of, free, is_locked, marks_ok, sound_of, setting_of}
use Rattle.host.specs.LockLaws.{free_unlocked}
use Rattle.history.specs.declared.Ledger.{Ledger}
use Rattle.history.specs.Ledger.{entry, entry_of}
use Rattle.history.proofs.LedgerLaws.{free_out, setting_enters}

module _ (m : ℕ) (bytes : List ℕ) where
  -- a record of the ledger's bytes, on bus 0 with pins 0, is sound where its bytes are an image of the member
  image_sound : sound_of (record_of (header_of m 0 0 free) bytes bytes) ≡ image_ok m bytes
  unfolding sound_of marks_ok is_locked opens image_ok
  image_sound = go (dec_lt m 5)
    where
      go : Dec (m < 5) → sound_of (record_of (header_of m 0 0 free) bytes bytes) ≡ image_ok m bytes
      go (yes h) = rw (open_i2c m 0 0 (omega arith) (omega arith) refl, lt-ltb m 5 h) (twice _)
        where
          twice : (b : Bool) → (b && (b && true)) ≡ b
          twice true = refl
          twice false = refl
      go (no n) = rw (open_member m 0 0 (omega arith), le-ltb m 5 (omega arith)) refl

  -- what a setting leaves in that record
  set_is : (q : Setting) (lent : List ℕ) (x : Changed) → x ≡ setting_of (record_of (header_of m 0 0 free) bytes bytes) q lent →
      x.host.settings ≡ cond (image_ok m bytes) (entry m bytes (Set q) lent) bytes
  set_is q lent x e =
      let asked = record_of (header_of m 0 0 free) bytes bytes in
      ap (λ (y : Changed). y.host.settings) e
      ∙ setting_enters asked q lent
      ∙ ap₂ (λ (b c : Bool). cond b (cond c bytes (entry m bytes (Set q) lent)) bytes) image_sound (free_out (header_of m 0 0 free) (free_unlocked (header_of m 0 0 free) refl) q)

-- a setting, put to a record of the ledger's bytes
pub set_enters : (g : Ledger) (q : Setting) (lent : List ℕ) (x : Changed) → x ≡ setting_of (record_of (header_of g.member 0 0 free) g.bytes g.bytes) q lent →
    record { member = g.member; bytes = x.host.settings } ≡ entry_of g (Set q) lent
set_enters g q lent x e = ap (λ (l : List ℕ). record { member = g.member; bytes = l }) (set_is g.member g.bytes q lent x e)
