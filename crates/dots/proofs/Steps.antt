-- The steps of a field, over plain variables.
-- Assumes nothing.
use mathlib.Core.Path.{◌≡◌, refl, sym, ap, ◌∙◌}
use mathlib.Core.Bool.{Bool, true, false, cond}
use mathlib.Core.List.{List}
use Prim.Native.Nat.{ℕ, ◌+◌, ◌-◌, ◌*◌, ◌/◌, ◌%◌, ◌^◌, ◌<◌, ◌≤◌}
use native.Mathlib.Nat.{mod-lt, mod-eq_of_lt}
use native.Mathlib.Omega.{arith}
use lib.Bits.{bit_and, and_mask}
use lib.Pow.{pow_pos, shr_le}
use lib.ListN.{get_or, set}
use Rattle.std.proofs.Common.{Option, Some, None}
use Rattle.map.specs.declared.dots.Field.{Field}
use Rattle.map.specs.declared.dots.Field.TheVariants.{Group, Switch, Open, Short, Current, Pwm8, Pwm16}
use Rattle.map.specs.declared.dots.Place.{Place}
use Rattle.map.specs.Map.{is_dot, address_of, shift_of, width_of, place_as, place_of}
use Rattle.dots.specs.Dots.{put_bits, field_of, put_field}
use Rattle.dots.specs.Bits.{bits_in}
use Rattle.dots.specs.BitLaws.{three_parts, put_sum, put_byte, field_byte}

-- ---- places

pub record Placed (f : Field) (m l s a x : ℕ) : Type 0 where
  pub dot : is_dot m l s ≡ true
  pub address : a ≡ address_of f l s
  pub shift : x ≡ shift_of f s

abbrev at_byte : ℕ → ℕ → Place
at_byte a x = record { address = a; shift = x }

module _ (f : Field) (m l s : ℕ) (place : Option Place) (e : place ≡ place_of f m l s) where
  pub at_place : (a x : ℕ) → place ≡ Some (at_byte a x) → Placed f m l s a x
  unfolding place_of place_as
  at_place a x ea = go (is_dot m l s) refl
    where
      go : (b : Bool) → is_dot m l s ≡ b → Placed f m l s a x
      go true d =
          let q : Some (at_byte a x) ≡ Some (at_byte (address_of f l s) (shift_of f s)) = sym ea ∙ e ∙ rw d refl in
          let p : at_byte a x ≡ place_as f l s = cc in
          record { dot = d; address = ap (λ (r : Place). r.address) p; shift = ap (λ (r : Place). r.shift) p }
      go false d =
          let q : ◌≡◌ {A = Option Place} (Some (at_byte a x)) None = sym ea ∙ e ∙ rw d refl in
          let z : ◌≡◌ {A = ℕ} 0 1 = cc in absurd (omega arith)

  pub no_dot : place ≡ None → is_dot m l s ≡ false
  unfolding place_of place_as
  no_dot ea = go (is_dot m l s) refl
    where
      go : (b : Bool) → is_dot m l s ≡ b → is_dot m l s ≡ false
      go true d =
          let q : ◌≡◌ {A = Option Place} None (Some (at_byte (address_of f l s) (shift_of f s))) = sym ea ∙ e ∙ rw d refl in
          let z : ◌≡◌ {A = ℕ} 0 1 = cc in absurd (omega arith)
      go false d = d

-- ---- bits

-- a field's bits lie within its byte
fits_byte : (f : Field) (s : ℕ) → shift_of f s + bits_in f ≤ 8
unfolding shift_of bits_in width_of
fits_byte Group s = omega arith
fits_byte Switch s = omega arith
fits_byte Open s = omega arith
fits_byte Short s = omega arith
fits_byte Current s = omega arith
fits_byte Pwm8 s = omega arith
fits_byte Pwm16 s = omega arith

some_bits : (f : Field) → 0 < bits_in f
unfolding bits_in width_of
some_bits Group = omega arith
some_bits Switch = omega arith
some_bits Open = omega arith
some_bits Short = omega arith
some_bits Current = omega arith
some_bits Pwm8 = omega arith
some_bits Pwm16 = omega arith

-- a byte is its low eight bits of sixteen
low_bits : (f : Field) (x : ℕ) → x < 256 → x % 2 ^ bits_in f ≡ x % 2 ^ width_of f
unfolding bits_in width_of
low_bits Group x h = refl
low_bits Switch x h = refl
low_bits Open x h = refl
low_bits Short x h = refl
low_bits Current x h = refl
low_bits Pwm8 x h = refl
low_bits Pwm16 x h = omega arith

low_put : (f : Field) (s byte v : ℕ) → byte < 256 → v < 256 →
    put_bits (shift_of f s) (bits_in f) byte (v % 2 ^ bits_in f) ≡ put_bits (shift_of f s) (width_of f) byte (v % 2 ^ width_of f)
unfolding shift_of bits_in width_of put_bits
low_put Group s byte v hb hv = refl
low_put Switch s byte v hb hv = refl
low_put Open s byte v hb hv = refl
low_put Short s byte v hb hv = refl
low_put Current s byte v hb hv = refl
low_put Pwm8 s byte v hb hv = refl
low_put Pwm16 s byte v hb hv = omega arith

module _ (f : Field) (p : ℕ) (fits : p + bits_in f ≤ 8) where
  pub shift_small : p < 8
  shift_small = omega (arith, some_bits f)

  module _ (mask : ℕ) (em : mask ≡ 2 ^ bits_in f - 1) where
    -- the low bits of any number, moved up to the field
    moved : (x : ℕ) → bit_and x mask * 2 ^ p % 256 ≡ x % 2 ^ bits_in f * 2 ^ p
    moved x =
        rw (em, and_mask x (bits_in f))
        (mod-eq_of_lt (field_byte p (bits_in f) fits (x % 2 ^ bits_in f) (mod-lt x (pow_pos (bits_in f)))))

    module _ (byte : ℕ) where
      pub old_inside : bit_and (byte / 2 ^ p) mask * 2 ^ p % 256 ≤ byte
      old_inside = rw (moved (byte / 2 ^ p)) (omega (arith, three_parts p (bits_in f) byte))

      module _ (v : ℕ) where
        pub bits_put : byte - bit_and (byte / 2 ^ p) mask * 2 ^ p % 256 + bit_and v mask * 2 ^ p % 256 ≡ put_bits p (bits_in f) byte (v % 2 ^ bits_in f)
        bits_put = rw (moved (byte / 2 ^ p), moved v) (put_sum p (bits_in f) byte (v % 2 ^ bits_in f))

        pub put_inside : byte < 256 → byte - bit_and (byte / 2 ^ p) mask * 2 ^ p % 256 + bit_and v mask * 2 ^ p % 256 < 256
        put_inside h = rw bits_put (put_byte p (bits_in f) fits byte (v % 2 ^ bits_in f) h (mod-lt v (pow_pos (bits_in f))))

-- ---- fields

module _ (f : Field) (m l s a x : ℕ) (at : Placed f m l s a x) where
  pub place_fits : x + bits_in f ≤ 8
  place_fits = rw at.shift (fits_byte f s)

  module _ (image : List ℕ) (byte : ℕ) (eb : byte ≡ get_or image a 0) (hb : byte < 256) where
    pub field_read : (mask : ℕ) → mask ≡ 2 ^ bits_in f - 1 → bit_and (byte / 2 ^ x) mask ≡ cond (is_dot m l s) (field_of f image l s) 0
    unfolding field_of
    field_read mask em =
        ap (bit_and (byte / 2 ^ x)) em
        ∙ and_mask (byte / 2 ^ x) (bits_in f)
        ∙ low_bits f (byte / 2 ^ x) (omega (arith, shr_le byte x))
        ∙ sym (rw (at.dot, sym at.address, sym at.shift, sym eb) refl)

    pub field_put : (v r : ℕ) (new : List ℕ) → v < 256 → r ≡ put_bits x (bits_in f) byte (v % 2 ^ bits_in f) → new ≡ set image a r →
        new ≡ cond (is_dot m l s) (put_field f image l s (v % 2 ^ width_of f)) image
    unfolding put_field
    field_put v r new hv er e =
        e ∙ ap (set image a) (er ∙ ap (λ (y : ℕ). put_bits y (bits_in f) byte (v % 2 ^ bits_in f)) at.shift ∙ low_put f s byte v hb hv)
        ∙ sym (rw (at.dot, sym at.address, sym eb) refl)
