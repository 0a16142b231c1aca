-- Reserved bits by ranges of addresses, where the member's lines n and columns cs are at hand, and in short where every column is there.
-- Assumes nothing.
use mathlib.Core.Path.{◌≡◌, refl, sym, ap, ◌∙◌}
use mathlib.Core.Bool.{Bool, true, cond, ◌||◌, and-true}
use Prim.Native.Nat.{ℕ, ◌+◌, ◌-◌, ◌*◌, ◌/◌, ◌%◌, ◌<◌, ◌≤◌}
use native.Mathlib.Decide.{dec_lt}
use native.Mathlib.Omega.{arith}
use borrow.Author.Tests.{lt-ltb, le-ltb, eqb-true}
use lib.Dec.{ltb, eqb}
use Rattle.map.specs.declared.kinds.Kind.TheVariants.{Config, Group, Switch, Current, Pwm}
use Rattle.map.specs.Map.{lines_of, every_column, columns_of, has_column, no_sink, dot_in, number_in, group_mask, switch_mask, group_reserved, switch_reserved, current_reserved, pwm_reserved, reserved_as, reserved_of}
use Rattle.map.specs.MapLaws.{kind_first, kind_group, kind_switch, kind_current, kind_pwm, reserved_as_lem, number_past, empty_middle, empty_gap, empty_past, lines_most}
use Rattle.map.specs.Lists.{all_from}
use Rattle.map.specs.ListLaws.{all_at}

-- ---- every column

every_column_lem : (s : ℕ) → s < 18 → has_column every_column s ≡ true
unfolding has_column all_from
every_column_lem s h = all_at (has_column every_column) 0 18 refl s (omega arith) h

ltb_same : (a b x y : ℕ) → (a < b → x < y) → (x < y → a < b) → ltb a b ≡ ltb x y
ltb_same a b x y f g = go (dec_lt a b)
  where
    go : Dec (a < b) → ltb a b ≡ ltb x y
    go (yes h) = lt-ltb a b h ∙ sym (lt-ltb x y (f h))
    go (no n) = le-ltb a b (omega arith) ∙ sym (le-ltb x y (past (dec_lt x y)))
      where
        past : Dec (x < y) → y ≤ x
        past (yes h) = absurd (n (g h))
        past (no k) = omega arith

every_number : (n d : ℕ) → number_in n every_column d ≡ ltb d (18 * n)
unfolding number_in dot_in
every_number n d =
    rw (every_column_lem (d % 18) (omega arith), and-true (ltb (d / 18) n)) (ltb_same (d / 18) n d (18 * n) (λ h. omega arith) (λ h. omega arith))

every_current : (n x : ℕ) → current_reserved n every_column x ≡ cond (ltb x (18 * n)) 0 255
unfolding current_reserved
every_current n x = ap (λ (b : Bool). cond b 0 255) (every_number n x)

every_pwm : (n x : ℕ) → pwm_reserved n every_column x ≡ cond (ltb x (36 * n)) 0 255
unfolding pwm_reserved
every_pwm n x = rw (every_number n (x / 2), every_number n x) (go (dec_lt x (36 * n)))
  where
    go : Dec (x < 36 * n) → ◌≡◌ {A = ℕ} (cond (ltb (x / 2) (18 * n) || ltb x (18 * n)) 0 255) (cond (ltb x (36 * n)) 0 255)
    go (yes h) = rw (lt-ltb (x / 2) (18 * n) (omega arith), lt-ltb x (36 * n) h) refl
    go (no k) = rw (le-ltb (x / 2) (18 * n) (omega arith), le-ltb x (18 * n) (omega arith), le-ltb x (36 * n) (omega arith)) refl

-- the masks of a line's bytes
group_test : ℕ → Bool
unfolding group_mask no_sink has_column
group_test q = eqb (group_mask every_column q) (cond (eqb q 4) 0xF0 0x00)

every_group : (q : ℕ) → q < 5 → group_mask every_column q ≡ cond (eqb q 4) 0xF0 0x00
unfolding group_test group_mask no_sink has_column all_from
every_group q h = eqb-true (group_mask every_column q) (cond (eqb q 4) 0xF0 0x00) (all_at group_test 0 5 refl q (omega arith) h)

switch_test : ℕ → Bool
unfolding switch_mask no_sink has_column
switch_test q = eqb (switch_mask every_column q) (cond (eqb q 2) 0xFC 0x00)

every_switch : (q : ℕ) → q < 3 → switch_mask every_column q ≡ cond (eqb q 2) 0xFC 0x00
unfolding switch_test switch_mask no_sink has_column all_from
every_switch q h = eqb-true (switch_mask every_column q) (cond (eqb q 2) 0xFC 0x00) (all_at switch_test 0 3 refl q (omega arith) h)

pub group_past : (n x : ℕ) → 5 * n ≤ x → 255 ≡ group_reserved n every_column x
unfolding group_reserved
group_past n x h = rw (le-ltb (x / 5) n (omega arith)) refl

pub group_in : (n x : ℕ) → x < 5 * n → cond (eqb (x % 5) 4) 0xF0 0x00 ≡ group_reserved n every_column x
unfolding group_reserved
group_in n x h = rw (lt-ltb (x / 5) n (omega arith)) (sym (every_group (x % 5) (omega arith)))

pub switch_past : (n x : ℕ) → 3 * n ≤ x → 255 ≡ switch_reserved n every_column x
unfolding switch_reserved
switch_past n x h = rw (le-ltb (x / 3) n (omega arith)) refl

pub switch_in : (n x : ℕ) → x < 3 * n → cond (eqb (x % 3) 2) 0xFC 0x00 ≡ switch_reserved n every_column x
unfolding switch_reserved
switch_in n x h = rw (lt-ltb (x / 3) n (omega arith)) (sym (every_switch (x % 3) (omega arith)))

-- ---- by ranges

-- r is what the code has for the address a
module _ (m n cs a r : ℕ) (lines : n ≡ lines_of m) (columns : cs ≡ columns_of m) where
  few : n ≤ 11
  few = omega (arith, lines_most m)

  pub mask_first : r ≡ reserved_as Config m n cs a → a < 0x00C → r ≡ reserved_of m a
  mask_first e h = e ∙ rw (lines, columns) (sym (reserved_as_lem m a Config (kind_first a h)))

  as_group : 0x00C ≤ a → a < 0x043 → reserved_as Group m n cs a ≡ reserved_of m a
  as_group l h = rw (lines, columns) (sym (reserved_as_lem m a Group (kind_group a l h)))

  pub mask_group : r ≡ reserved_as Group m n cs a → 0x00C ≤ a → a < 0x043 → r ≡ reserved_of m a
  mask_group e l h = e ∙ as_group l h

  as_switch : 0x043 ≤ a → a < 0x064 → reserved_as Switch m n cs a ≡ reserved_of m a
  as_switch l h = rw (lines, columns) (sym (reserved_as_lem m a Switch (kind_switch a l h)))

  pub mask_switch : r ≡ reserved_as Switch m n cs a → 0x043 ≤ a → a < 0x064 → r ≡ reserved_of m a
  mask_switch e l h = e ∙ as_switch l h

  -- the hole behind the currents is like a dot of a line that no member has
  as_current : 0x100 ≤ a → a < 0x200 → reserved_as Current m n cs a ≡ reserved_of m a
  unfolding reserved_as current_reserved
  as_current l h = go (dec_lt a 0x1C6)
    where
      go : Dec (a < 0x1C6) → cond (number_in n cs (a - 0x100)) 0 255 ≡ reserved_of m a
      go (yes u) = rw (lines, columns) (sym (reserved_as_lem m a Current (kind_current a l u)))
      go (no u) = rw (number_past n cs (a - 0x100) (omega (arith, few))) (sym (empty_gap m a (omega arith) h).mask)

  pub mask_current : r ≡ reserved_as Current m n cs a → 0x100 ≤ a → a < 0x200 → r ≡ reserved_of m a
  mask_current e l h = e ∙ as_current l h

  -- so are the addresses beyond 38Bh
  as_pwm : 0x200 ≤ a → reserved_as Pwm m n cs a ≡ reserved_of m a
  unfolding reserved_as pwm_reserved
  as_pwm l = go (dec_lt a 0x38C)
    where
      go : Dec (a < 0x38C) → cond (number_in n cs ((a - 0x200) / 2) || number_in n cs (a - 0x200)) 0 255 ≡ reserved_of m a
      go (yes u) = rw (lines, columns) (sym (reserved_as_lem m a Pwm (kind_pwm a l u)))
      go (no u) =
          rw (number_past n cs ((a - 0x200) / 2) (omega (arith, few)), number_past n cs (a - 0x200) (omega (arith, few)))
          (sym (empty_past m a (omega arith)).mask)

  pub mask_pwm : r ≡ reserved_as Pwm m n cs a → 0x200 ≤ a → r ≡ reserved_of m a
  mask_pwm e l = e ∙ as_pwm l

  module _ (every : cs ≡ every_column) where
    pub mask_every_group : r ≡ group_reserved n every_column (a - 0x00C) → 0x00C ≤ a → a < 0x043 → r ≡ reserved_of m a
    unfolding reserved_as
    mask_every_group e l h = e ∙ ap (λ (x : ℕ). group_reserved n x (a - 0x00C)) (sym every) ∙ as_group l h

    pub mask_every_switch : r ≡ switch_reserved n every_column (a - 0x043) → 0x043 ≤ a → a < 0x064 → r ≡ reserved_of m a
    unfolding reserved_as
    mask_every_switch e l h = e ∙ ap (λ (x : ℕ). switch_reserved n x (a - 0x043)) (sym every) ∙ as_switch l h

    pub mask_every_current : r ≡ cond (ltb a (0x100 + 18 * n)) 0 255 → 0x100 ≤ a → a < 0x200 → r ≡ reserved_of m a
    unfolding reserved_as
    mask_every_current e l h =
        e
        ∙ ap (λ (b : Bool). cond b 0 255) (ltb_same a (0x100 + 18 * n) (a - 0x100) (18 * n) (λ u. omega arith) (λ u. omega arith))
        ∙ sym (every_current n (a - 0x100))
        ∙ ap (λ (x : ℕ). current_reserved n x (a - 0x100)) (sym every)
        ∙ as_current l h

    pub mask_every_pwm : r ≡ cond (ltb a (0x200 + 36 * n)) 0 255 → 0x200 ≤ a → r ≡ reserved_of m a
    unfolding reserved_as
    mask_every_pwm e l =
        e
        ∙ ap (λ (b : Bool). cond b 0 255) (ltb_same a (0x200 + 36 * n) (a - 0x200) (36 * n) (λ u. omega arith) (λ u. omega arith))
        ∙ sym (every_pwm n (a - 0x200))
        ∙ ap (λ (x : ℕ). pwm_reserved n x (a - 0x200)) (sym every)
        ∙ as_pwm l

pub mask_middle : (m a : ℕ) → 0x064 ≤ a → a < 0x100 → 255 ≡ reserved_of m a
mask_middle m a l h = sym (empty_middle m a l h).mask
