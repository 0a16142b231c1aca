-- Laws of Pictures.antt: how long the texts are, where each character of a picture stands, each case of a lamp's character, what `same`
-- says, and the registers that differ one by one.
-- Assumes nothing.
use Rattle.std.specs.Prelude.{◌≡◌, Bool, cond, not}
use Rattle.std.proofs.Math.Path.{refl, ap}
use Rattle.std.proofs.Common.{sym, ◌∙◌, true≢false, zero-add, suc-add, mul-zero, mul-suc, length-append, get_or-append-add}
use Rattle.std.proofs.Math.Bool.{true, false, or-true}
use mathlib.Core.List.{List, [], ◌∷◌}
use Prim.Native.Nat.{ℕ, zero, suc, ◌+◌, ◌-◌, ◌*◌, ◌/◌, ◌<◌, ◌≤◌}
use Rattle.std.proofs.Math.Nat.{add-zero, add-suc}
use Rattle.std.proofs.Math.Numerals.{add-one}
use Rattle.std.proofs.Math.Decide.{ℕ_discrete}
use native.Mathlib.Omega.{arith}
use borrow.Author.Tests.{eq-eqb, ne_eqb}
use Rattle.std.proofs.Math.ListN.{length, get_or, get_or-append}
use Rattle.map.specs.declared.dots.Field.TheVariants.{Switch}
use Rattle.map.specs.Lists.{table_from, table}
use Rattle.map.specs.ListLaws.{and_left, table_length, table_at}
use Rattle.map.specs.Map.{lines_of, is_dot, dot_number, reserved_of, writable_of}
use Rattle.map.specs.MapLaws.{lines_most, empty_middle, empty_gap}
use Rattle.dots.specs.Dots.{wide_of, top_level, level_of, field_of}
use Rattle.text.specs.Text.{each_text, address_text, spaced_bytes_text}
use Rattle.text.specs.TextLaws.{address_length, spaced_bytes_length}
use Rattle.pictures.specs.Pictures.{next_line, lines_text, row_text, picture_text, is_on, tenths, tenths_char, dot_char, lamp_char, lamps_text, fault_char, faults_text, differs, where_from, differing_from, register_text, same_word, or_same, differences_text}

-- ---- lines

next_length : (f : ℕ → List ℕ) (k : ℕ) → ((x : ℕ) → length (f x) ≡ k) → (xs : List ℕ) → length (each_text (next_line f) xs) ≡ suc k * length xs
unfolding each_text next_line
next_length f k h [] = sym (mul-zero (suc k))
next_length f k h (x ∷ xs) =
    length-append (0x0A ∷ f x) (each_text (next_line f) xs) ∙ rw (h x, next_length f k h xs) (omega (arith, mul-suc (suc k) (length xs)))

-- lines of k characters, with LF between
pub lines_length : (f : ℕ → List ℕ) (k : ℕ) → ((x : ℕ) → length (f x) ≡ k) → (xs : List ℕ) → 0 < length xs → suc (length (lines_text f xs)) ≡ suc k * length xs
unfolding lines_text
lines_length f k h [] some = absurd (omega arith)
lines_length f k h (x ∷ xs) some =
    ap suc (length-append (f x) (each_text (next_line f) xs)) ∙ rw (h x, next_length f k h xs) (omega (arith, mul-suc (suc k) (length xs)))

-- place j of line i, where place 0 is the LF before it
next_at : (f : ℕ → List ℕ) (k : ℕ) → ((x : ℕ) → length (f x) ≡ k) → (xs : List ℕ) (i j : ℕ) → i < length xs → j < suc k →
    get_or (each_text (next_line f) xs) (suc k * i + j) 0 ≡ get_or (0x0A ∷ f (get_or xs i 0)) j 0
unfolding each_text next_line
next_at f k h [] i j hi hj = absurd (omega arith)
next_at f k h (x ∷ xs) zero j hi hj =
    rw (mul-zero, zero-add) (get_or-append (0x0A ∷ f x) (each_text (next_line f) xs) 0 j (omega (arith, h x)))
next_at f k h (x ∷ xs) (suc i) j hi hj =
    let further : suc k * suc i + j ≡ length (0x0A ∷ f x) + (suc k * i + j) = omega (arith, mul-suc (suc k) i, h x) in
    rw further (get_or-append-add (0x0A ∷ f x) (each_text (next_line f) xs) (suc k * i + j) 0) ∙ next_at f k h xs i j (omega arith) hj

-- with LF before them the lines are those behind another
lines_next : (f : ℕ → List ℕ) (xs : List ℕ) (j : ℕ) → 0 < length xs → get_or (lines_text f xs) j 0 ≡ get_or (each_text (next_line f) xs) (suc j) 0
unfolding lines_text each_text next_line
lines_next f [] j h = absurd (omega arith)
lines_next f (x ∷ xs) j h = refl

-- ---- pictures

row_length : (char : ℕ → ℕ → ℕ) (l : ℕ) → length (row_text char l) ≡ 18
unfolding row_text
row_length char l = table_length (char l) 18

module _ (m : ℕ) (char : ℕ → ℕ → ℕ) where
  pub picture_none : lines_of m ≡ 0 → picture_text m char ≡ []
  unfolding picture_text table table_from lines_text
  picture_none e = rw e refl

  -- 18 characters a line, and LF between
  pub picture_length : 0 < lines_of m → length (picture_text m char) ≡ 19 * lines_of m - 1
  unfolding picture_text
  picture_length h =
      let ls : List ℕ = table (λ l. l) (lines_of m) in
      let size : length ls ≡ lines_of m = table_length (λ l. l) (lines_of m) in
      omega (arith, size, lines_length (row_text char) 18 (row_length char) ls (omega (arith, size)))

  -- any picture fits 208 bytes
  pub picture_most : length (picture_text m char) ≤ 208
  picture_most = go (lines_of m) refl
    where
      go : (n : ℕ) → lines_of m ≡ n → length (picture_text m char) ≤ 208
      go zero e = omega (arith, ap length (picture_none e))
      go (suc n) e = omega (arith, picture_length (omega arith), lines_most m)

  -- the character of sink s stands at place s of line l, 19 places a line
  pub picture_char : (l s : ℕ) → l < lines_of m → s < 18 → get_or (picture_text m char) (19 * l + s) 0 ≡ char l s
  unfolding picture_text row_text
  picture_char l s hl hs =
      let ls : List ℕ = table (λ x. x) (lines_of m) in
      let size : length ls ≡ lines_of m = table_length (λ x. x) (lines_of m) in
      lines_next (row_text char) ls (19 * l + s) (omega (arith, size))
      ∙ ap (λ (j : ℕ). get_or (each_text (next_line (row_text char)) ls) j 0) (sym (add-suc (19 * l) s))
      ∙ next_at (row_text char) 18 (row_length char) ls l (suc s) (omega (arith, size)) (omega arith)
      ∙ ap (λ (x : ℕ). get_or (row_text char x) s 0) (table_at (λ x. x) (lines_of m) l 0 hl)
      ∙ table_at (char l) 18 s 0 hs

  -- and LF behind every line but the last
  pub picture_lf : (l : ℕ) → suc l < lines_of m → get_or (picture_text m char) (19 * l + 18) 0 ≡ 0x0A
  unfolding picture_text
  picture_lf l h =
      let ls : List ℕ = table (λ x. x) (lines_of m) in
      let size : length ls ≡ lines_of m = table_length (λ x. x) (lines_of m) in
      let next : suc (19 * l + 18) ≡ 19 * suc l + 0 = omega arith in
      lines_next (row_text char) ls (19 * l + 18) (omega (arith, size))
      ∙ ap (λ (j : ℕ). get_or (each_text (next_line (row_text char)) ls) j 0) next
      ∙ next_at (row_text char) 18 (row_length char) ls (suc l) 0 (omega (arith, size)) (omega arith)

pub lamps_length : (m : ℕ) (image : List ℕ) → 0 < lines_of m → length (lamps_text m image) ≡ 19 * lines_of m - 1
unfolding lamps_text
lamps_length m image h = picture_length m (lamp_char m image) h

pub lamps_most : (m : ℕ) (image : List ℕ) → length (lamps_text m image) ≤ 208
unfolding lamps_text
lamps_most m image = picture_most m (lamp_char m image)

pub faults_length : (m : ℕ) (readings : List ℕ) → 0 < lines_of m → length (faults_text m readings) ≡ 19 * lines_of m - 1
unfolding faults_text
faults_length m readings h = picture_length m (fault_char readings) h

pub faults_most : (m : ℕ) (readings : List ℕ) → length (faults_text m readings) ≤ 208
unfolding faults_text
faults_most m readings = picture_most m (fault_char readings)

-- ---- a lamp's character

module _ (on : Bool) (top v switch : ℕ) where
  pub dot_off : on ≡ false → dot_char on top v switch ≡ 0x2E
  unfolding dot_char
  dot_off e = rw e refl

  pub dot_dark : v ≡ 0 → dot_char on top v switch ≡ 0x2E
  unfolding dot_char
  dot_dark e = rw (eq-eqb v 0 e, or-true (not on)) refl

  pub dot_switched_off : on ≡ true → (v ≡ 0 → ⊥) → switch ≡ 0 → dot_char on top v switch ≡ 0x78
  unfolding dot_char
  dot_switched_off e n z = rw (e, ne_eqb v 0 n, eq-eqb switch 0 z) refl

  pub dot_lit : on ≡ true → (v ≡ 0 → ⊥) → (switch ≡ 0 → ⊥) → dot_char on top v switch ≡ tenths_char top v
  unfolding dot_char
  dot_lit e n z = rw (e, ne_eqb v 0 n, ne_eqb switch 0 z) refl

-- the largest level is 255 or 65,535
pub top_range : (image : List ℕ) → (0 < top_level image) × (top_level image < 65536)
unfolding top_level
top_range image = go (wide_of image)
  where
    go : (b : Bool) → (0 < cond b 65535 255) × (cond b 65535 255 < 65536)
    go true = (omega arith, omega arith)
    go false = (omega arith, omega arith)

-- a level that is not 0 has one tenth to ten
pub tenths_range : (image : List ℕ) (v : ℕ) → 0 < v → v ≤ top_level image → (1 ≤ tenths (top_level image) v) × (tenths (top_level image) v ≤ 10)
unfolding top_level tenths
tenths_range image v h = go (wide_of image)
  where
    go : (b : Bool) → v ≤ cond b 65535 255 →
        (1 ≤ (10 * v + cond b 65535 255 - 1) / cond b 65535 255) × ((10 * v + cond b 65535 255 - 1) / cond b 65535 255 ≤ 10)
    go true u = (omega arith, omega arith)
    go false u = (omega arith, omega arith)

-- the largest has all ten
pub tenths_full : (image : List ℕ) → tenths_char (top_level image) (top_level image) ≡ 0x23
unfolding top_level tenths_char tenths
tenths_full image = go (wide_of image)
  where
    go : (b : Bool) → tenths_char (cond b 65535 255) (cond b 65535 255) ≡ 0x23
    go true = refl
    go false = refl

module _ (m : ℕ) (image : List ℕ) (l s : ℕ) where
  pub lamp_absent : is_dot m l s ≡ false → lamp_char m image l s ≡ 0x20
  unfolding lamp_char
  lamp_absent e = rw e refl

  pub lamp_there : is_dot m l s ≡ true → lamp_char m image l s ≡ dot_char (is_on image) (top_level image) (level_of image (dot_number l s)) (field_of Switch image l s)
  unfolding lamp_char
  lamp_there e = rw e refl

  pub lamp_off : is_dot m l s ≡ true → is_on image ≡ false → lamp_char m image l s ≡ 0x2E
  lamp_off e off = lamp_there e ∙ dot_off (is_on image) (top_level image) (level_of image (dot_number l s)) (field_of Switch image l s) off

  pub lamp_dark : is_dot m l s ≡ true → level_of image (dot_number l s) ≡ 0 → lamp_char m image l s ≡ 0x2E
  lamp_dark e dark = lamp_there e ∙ dot_dark (is_on image) (top_level image) (level_of image (dot_number l s)) (field_of Switch image l s) dark

  module _ (e : is_dot m l s ≡ true) (on : is_on image ≡ true) (some : level_of image (dot_number l s) ≡ 0 → ⊥) where
    pub lamp_switched_off : field_of Switch image l s ≡ 0 → lamp_char m image l s ≡ 0x78
    lamp_switched_off z = lamp_there e ∙ dot_switched_off (is_on image) (top_level image) (level_of image (dot_number l s)) (field_of Switch image l s) on some z

    module _ (switched : field_of Switch image l s ≡ 0 → ⊥) where
      pub lamp_lit : lamp_char m image l s ≡ tenths_char (top_level image) (level_of image (dot_number l s))
      lamp_lit = lamp_there e ∙ dot_lit (is_on image) (top_level image) (level_of image (dot_number l s)) (field_of Switch image l s) on some switched

      pub lamp_full : level_of image (dot_number l s) ≡ top_level image → lamp_char m image l s ≡ 0x23
      lamp_full full = lamp_lit ∙ ap (tenths_char (top_level image)) full ∙ tenths_full image

-- ---- numbers at which a test holds

module _ (f : ℕ → Bool) where
  pub where_holds : (a n : ℕ) → f a ≡ true → where_from f a (suc n) ≡ a ∷ where_from f (suc a) n
  unfolding where_from
  where_holds a n e = rw (e, where_from) refl

  pub where_fails : (a n : ℕ) → f a ≡ false → where_from f a (suc n) ≡ where_from f (suc a) n
  unfolding where_from
  where_fails a n e = rw (e, where_from) refl

  -- no more than there are
  where_most : (a n : ℕ) → length (where_from f a n) ≤ n
  unfolding where_from
  where_most a zero = omega arith
  where_most a (suc n) = go (f a) refl (where_most (suc a) n)
    where
      go : (b : Bool) → f a ≡ b → length (where_from f (suc a) n) ≤ n → length (where_from f a (suc n)) ≤ suc n
      go true e r = omega (arith, ap length (where_holds a n e))
      go false e r = omega (arith, ap length (where_fails a n e))

  -- none where the test fails
  where_none : (a n : ℕ) → ((k : ℕ) → a ≤ k → k < a + n → f k ≡ false) → length (where_from f a n) ≡ 0
  unfolding where_from
  where_none a zero h = refl
  where_none a (suc n) h =
      ap length (where_fails a n (h a (omega arith) (omega arith))) ∙ where_none (suc a) n (λ k l u. h k (omega arith) (omega arith))

  -- where there is none the test fails everywhere
  where_empty : (a n : ℕ) → length (where_from f a n) ≡ 0 → (k : ℕ) → a ≤ k → k < a + n → f k ≡ false
  unfolding where_from
  where_empty a zero e k l h = absurd (omega (arith, add-zero a))
  where_empty a (suc n) e k l h = go (f a) refl (where_empty (suc a) n) (ℕ_discrete k a)
    where
      go : (b : Bool) → f a ≡ b → (length (where_from f (suc a) n) ≡ 0 → (j : ℕ) → suc a ≤ j → j < suc a + n → f j ≡ false) → Dec (k ≡ a) → f k ≡ false
      go true d r q = absurd (omega (arith, ap length (where_holds a n d)))
      go false d r (yes q) = ap f q ∙ d
      go false d r (no q) = r (sym (ap length (where_fails a n d)) ∙ e) k (omega arith) (omega (arith, add-suc a n))

  -- a range is its two parts
  where_split : (a n k : ℕ) → length (where_from f a (n + k)) ≡ length (where_from f a n) + length (where_from f (a + n) k)
  unfolding where_from
  where_split a zero k = rw (zero-add k, add-zero a) (sym (zero-add _))
  where_split a (suc n) k = go (f a) refl (where_split (suc a) n k)
    where
      shift : suc a + n ≡ a + suc n
      shift = omega arith

      go : (b : Bool) → f a ≡ b → length (where_from f (suc a) (n + k)) ≡ length (where_from f (suc a) n) + length (where_from f (suc a + n) k) →
          length (where_from f a (suc n + k)) ≡ length (where_from f a (suc n)) + length (where_from f (a + suc n) k)
      go true e r = rw (suc-add, where_holds a (n + k) e, where_holds a n e, ← shift) (ap suc r ∙ sym (suc-add _ _))
      go false e r = rw (suc-add, where_fails a (n + k) e, where_fails a n e, ← shift) r

-- the stronger test holds at no more numbers
where_fewer : (f g : ℕ → Bool) → ((k : ℕ) → f k ≡ true → g k ≡ true) → (a n : ℕ) → length (where_from f a n) ≤ length (where_from g a n)
unfolding where_from
where_fewer f g h a zero = omega arith
where_fewer f g h a (suc n) = go (f a) refl (g a) refl (where_fewer f g h (suc a) n)
  where
    go : (b : Bool) → f a ≡ b → (c : Bool) → g a ≡ c → length (where_from f (suc a) n) ≤ length (where_from g (suc a) n) →
        length (where_from f a (suc n)) ≤ length (where_from g a (suc n))
    go true e true d r = rw (where_holds f a n e, where_holds g a n d) (omega arith)
    go true e false d r = absurd (true≢false (sym (h a e) ∙ d))
    go false e true d r = rw (where_fails f a n e, where_holds g a n d) (omega arith)
    go false e false d r = rw (where_fails f a n e, where_fails g a n d) r

-- ---- registers that differ

not_writable : (m a : ℕ) → reserved_of m a ≡ 255 → writable_of m a ≡ false
unfolding writable_of
not_writable m a e = rw e refl

-- no member has more than 694 writable addresses: none stands at 064h to 0FFh, nor at 1C6h to 1FFh
pub writable_most : (m : ℕ) → length (where_from (writable_of m) 0 908) ≤ 694
writable_most m =
    let f = writable_of m in
    let middle = where_none f 0x064 156 (λ k l u. not_writable m k (empty_middle m k l u).mask) in
    let gap = where_none f 0x1C6 58 (λ k l u. not_writable m k (empty_gap m k l u).mask) in
    omega (
      arith,
      where_split f 0 0x064 808,
      where_split f 0x064 156 652,
      where_split f 0x100 198 454,
      where_split f 0x1C6 58 396,
      where_most f 0 0x064,
      where_most f 0x100 198,
      where_most f 0x200 396,
      middle,
      gap,
    )

register_length : (held asked : List ℕ) (a : ℕ) → length (register_text held asked a) ≡ 9
unfolding register_text
register_length held asked a =
    let bytes : List ℕ = get_or held a 0 ∷ get_or asked a 0 ∷ [] in
    omega (arith, length-append (address_text a) (spaced_bytes_text bytes), address_length a, spaced_bytes_length bytes)

or_same_most : (f : ℕ → List ℕ) → ((x : ℕ) → length (f x) ≡ 9) → (xs : List ℕ) → length xs ≤ 694 → length (or_same f xs) ≤ 6939
unfolding or_same
or_same_most f h [] u = omega arith
or_same_most f h (x ∷ xs) u = omega (arith, lines_length f 9 h (x ∷ xs) (omega arith))

module _ (m : ℕ) (held asked : List ℕ) where
  -- any list of differences fits 6,939 bytes
  pub differences_most : length (differences_text m held asked) ≤ 6939
  unfolding differences_text differing_from differs
  differences_most =
      or_same_most (register_text held asked) (register_length held asked) (where_from (differs m held asked) 0 908)
      (omega (arith, writable_most m, where_fewer (differs m held asked) (writable_of m) (λ k e. and_left (writable_of m k) _ e) 0 908))

  -- `same` says that no register differs
  pub agree_same : ((a : ℕ) → a < 908 → differs m held asked a ≡ false) → differences_text m held asked ≡ same_word
  unfolding differences_text differing_from or_same
  agree_same h = go (where_from (differs m held asked) 0 908) (where_none (differs m held asked) 0 908 (λ k l u. h k u))
    where
      go : (xs : List ℕ) → length xs ≡ 0 → or_same (register_text held asked) xs ≡ same_word
      go [] e = refl
      go (x ∷ xs) e = absurd (omega arith)

  pub same_agree : differences_text m held asked ≡ same_word → (a : ℕ) → a < 908 → differs m held asked a ≡ false
  unfolding differences_text differing_from or_same
  same_agree e a h = where_empty (differs m held asked) 0 908 (go (where_from (differs m held asked) 0 908) e) a (omega arith) h
    where
      go : (xs : List ℕ) → or_same (register_text held asked) xs ≡ same_word → length xs ≡ 0
      go [] q = refl
      go (x ∷ xs) q = absurd (omega (arith, ap length q, lines_length (register_text held asked) 9 (register_length held asked) (x ∷ xs) (omega arith)))

  pub differing_none : differing_from m held asked 908 ≡ []
  unfolding differing_from where_from
  differing_none = refl

  module _ (a : ℕ) (h : a < 908) where
    one_more : 908 - a ≡ suc (908 - (a + 1))
    one_more = omega arith

    pub differing_holds : differs m held asked a ≡ true → differing_from m held asked a ≡ a ∷ differing_from m held asked (a + 1)
    unfolding differing_from
    differing_holds e = rw one_more (where_holds (differs m held asked) a (908 - (a + 1)) e ∙ rw add-one refl)

    pub differing_fails : differs m held asked a ≡ false → differing_from m held asked a ≡ differing_from m held asked (a + 1)
    unfolding differing_from
    differing_fails e = rw one_more (where_fails (differs m held asked) a (908 - (a + 1)) e ∙ rw add-one refl)

-- the first register that differs from an address on, 908 where there is none
pub record First (m : ℕ) (held asked : List ℕ) (from r : ℕ) : Type 0 where
  pub low : from ≤ r
  pub high : r ≤ 908
  pub same : differing_from m held asked from ≡ differing_from m held asked r
  pub holds : r < 908 → differs m held asked r ≡ true

module _ (m : ℕ) (held asked : List ℕ) where
  first_within : (n a : ℕ) → a + n ≡ 908 → First m held asked a (get_or (differing_from m held asked a) 0 908)
  first_within zero a e =
      let end : a ≡ 908 = omega arith in
      rw (end, differing_none m held asked) (record { low = omega arith; high = omega arith; same = refl; holds = λ h. absurd (omega arith) })
  first_within (suc n) a e = go (differs m held asked a) refl (first_within n (a + 1) (omega arith))
    where
      go : (b : Bool) → differs m held asked a ≡ b → First m held asked (a + 1) (get_or (differing_from m held asked (a + 1)) 0 908) →
          First m held asked a (get_or (differing_from m held asked a) 0 908)
      go true d r =
          let is : get_or (differing_from m held asked a) 0 908 ≡ a = ap (λ (l : List ℕ). get_or l 0 908) (differing_holds m held asked a (omega arith) d) in
          rw is (record { low = omega arith; high = omega arith; same = refl; holds = λ h. d })
      go false d r =
          let same : differing_from m held asked a ≡ differing_from m held asked (a + 1) = differing_fails m held asked a (omega arith) d in
          let is : get_or (differing_from m held asked a) 0 908 ≡ get_or (differing_from m held asked (a + 1)) 0 908 = ap (λ (l : List ℕ). get_or l 0 908) same in
          rw is (record { low = omega (arith, r.low); high = r.high; same = same ∙ r.same; holds = r.holds })

  pub first_is : (a : ℕ) → a ≤ 908 → First m held asked a (get_or (differing_from m held asked a) 0 908)
  first_is a h = first_within (908 - a) a (omega arith)
