-- One lemma for each end of the functions that put pictures and differences, and for each turn of their loops.
-- Assumes nothing.
use mathlib.Core.Path.{◌≡◌, refl, sym, ap, ◌∙◌}
use Rattle.std.proofs.Common.{Option, Some, None, MatchOption, add-zero, zero-add}
use mathlib.Core.Bool.{Bool, true, false, cond}
use mathlib.Core.List.{List, [], ◌∷◌, ◌++◌}
use Prim.Native.Nat.{ℕ, zero, suc, ◌+◌, ◌-◌, ◌*◌, ◌<◌, ◌≤◌}
use native.Mathlib.Nat.{sub-zero}
use native.Mathlib.Numerals.{add-one}
use native.Mathlib.Omega.{arith}
use lib.ListN.{get_or}
use Rattle.map.specs.declared.dots.Field.TheVariants.{Switch}
use Rattle.map.specs.Lists.{table_from, table}
use Rattle.map.specs.Map.{lines_of, is_dot}
use Rattle.dots.specs.Dots.{top_level, level_of, field_of}
use Rattle.text.specs.Text.{Puts, placed, place_after, each_text, address_text, spaced_bytes_text}
use Rattle.text.specs.TextLaws.{puts_then, puts_as, Putting, putting_none, putting_more, putting_all}
use Rattle.pictures.specs.Pictures.{next_line, lines_text, row_text, picture_text, is_on, dot_char, lamp_char, differs, differing_from, register_text, same_word, or_same, differences_text}
use Rattle.pictures.specs.PictureLaws.{picture_none, top_range, lamp_there, differing_none, differing_holds, differing_fails, First}

-- ---- lines

-- behind the first line those of `all` are to be put, and those of `rest` are left
abbrev pub Lines : (ℕ → List ℕ) → List ℕ → ℕ → List ℕ → List ℕ → List ℕ → ℕ → Type 0
Lines f old at all rest text next = Putting old at (each_text (next_line f) all) (each_text (next_line f) rest) text next

module _ (f : ℕ → List ℕ) (old : List ℕ) (at : ℕ) (all rest text : List ℕ) (next : ℕ) (w : Lines f old at all rest text next) where
  -- LF and a line
  pub lines_more : (x : ℕ) (xs mid : List ℕ) (between : ℕ) (new : List ℕ) (r : ℕ) → rest ≡ x ∷ xs → Puts text next (0x0A ∷ []) mid between → Puts mid between (f x) new r →
      Lines f old at all xs new r
  unfolding each_text next_line
  lines_more x xs mid between new r e p q =
      putting_more old at (each_text (next_line f) all) text next (0x0A ∷ f x) (each_text (next_line f) xs) new r (rw e at w)
      (puts_then text next (0x0A ∷ []) mid between (f x) new r p q)

  -- the first line and those behind it
  pub lines_all : (start : List ℕ) (place x : ℕ) → Puts start place (f x) old at → rest ≡ [] → Puts start place (lines_text f (x ∷ all)) text next
  unfolding each_text lines_text
  lines_all start place x p e =
      puts_then start place (f x) old at (each_text (next_line f) all) text next p
      (putting_all old at (each_text (next_line f) all) text next (rw e at w))

-- ---- pictures

table_step : (f : ℕ → ℕ) (i n : ℕ) → i < n → table_from f i (n - i) ≡ f i ∷ table_from f (i + 1) (n - (i + 1))
unfolding table_from
table_step f i n h =
    let more : n - i ≡ suc (n - (i + 1)) = omega arith in
    rw more (rw add-one refl)

table_end : (f : ℕ → ℕ) (i n : ℕ) → n ≤ i → table_from f i (n - i) ≡ []
unfolding table_from
table_end f i n h =
    let none : n - i ≡ 0 = omega arith in
    rw none refl

-- the characters of i sinks are put
abbrev pub Row : (ℕ → ℕ → ℕ) → ℕ → List ℕ → ℕ → List ℕ → ℕ → ℕ → Type 0
Row char l old at text next i = Putting old at (row_text char l) (table_from (char l) i (18 - i)) text next

pub row_none : (char : ℕ → ℕ → ℕ) (l : ℕ) (old : List ℕ) (at : ℕ) → Row char l old at old at 0
unfolding row_text table
row_none char l old at = putting_none old at (row_text char l)

module _ (char : ℕ → ℕ → ℕ) (l : ℕ) (old : List ℕ) (at : ℕ) (text : List ℕ) (next i : ℕ) (w : Row char l old at text next i) where
  pub row_more : (x : ℕ) (new : List ℕ) (r : ℕ) → i < 18 → x ≡ char l i → Puts text next (x ∷ []) new r → Row char l old at new r (i + 1)
  row_more x new r h e p =
      let step : table_from (char l) i (18 - i) ≡ x ∷ table_from (char l) (i + 1) (18 - (i + 1)) =
      table_step (char l) i 18 h ∙ ap (λ (y : ℕ). y ∷ table_from (char l) (i + 1) (18 - (i + 1))) (sym e)
      in
      putting_more old at (row_text char l) text next (x ∷ []) (table_from (char l) (i + 1) (18 - (i + 1))) new r (rw step at w) p

  pub row_all : 18 ≤ i → Puts old at (row_text char l) text next
  row_all h = putting_all old at (row_text char l) text next (rw (table_end (char l) i 18 h) at w)

-- i of n rows are put, LF between
abbrev pub Rows : (ℕ → ℕ → ℕ) → List ℕ → ℕ → ℕ → List ℕ → ℕ → ℕ → Type 0
Rows char old at n text next i = Lines (row_text char) old at (table_from (λ l. l) 1 (n - 1)) (table_from (λ l. l) i (n - i)) text next

pub rows_first : (char : ℕ → ℕ → ℕ) (old : List ℕ) (at n : ℕ) → Rows char old at n old at 1
rows_first char old at n = putting_none old at (each_text (next_line (row_text char)) (table_from (λ l. l) 1 (n - 1)))

module _ (char : ℕ → ℕ → ℕ) (old : List ℕ) (at n : ℕ) (text : List ℕ) (next i : ℕ) (w : Rows char old at n text next i) where
  pub rows_more : (mid : List ℕ) (between : ℕ) (new : List ℕ) (r : ℕ) → i < n → Puts text next (0x0A ∷ []) mid between → Puts mid between (row_text char i) new r →
      Rows char old at n new r (i + 1)
  rows_more mid between new r h p q =
      lines_more (row_text char) old at (table_from (λ l. l) 1 (n - 1)) (table_from (λ l. l) i (n - i)) text next w i
      (table_from (λ l. l) (i + 1) (n - (i + 1))) mid between new r (table_step (λ l. l) i n h) p q

  pub rows_all : (m : ℕ) (start : List ℕ) (place : ℕ) → n ≡ lines_of m → (n ≡ 0 → ⊥) → Puts start place (row_text char 0) old at → n ≤ i →
      Puts start place (picture_text m char) text next
  unfolding picture_text table
  rows_all m start place e some p h =
      let lines : table_from (λ l. l) 0 (lines_of m) ≡ 0 ∷ table_from (λ l. l) 1 (n - 1) =
      ap (table_from (λ l. l) 0) (sym e ∙ sym (sub-zero n)) ∙ table_step (λ l. l) 0 n (omega arith)
      in
      rw lines (lines_all (row_text char) old at (table_from (λ l. l) 1 (n - 1)) (table_from (λ l. l) i (n - i)) text next w start place 0 p (table_end (λ l. l) i n h))

-- a member with no lines
pub rows_none : (char : ℕ → ℕ → ℕ) (old : List ℕ) (at m n : ℕ) → n ≡ lines_of m → n ≡ 0 → Puts old at (picture_text m char) old at
unfolding placed place_after
rows_none char old at m n e z = rw (picture_none m char (sym e ∙ z)) (record { buffer = refl; place = refl })

-- ---- lamps

pub top_fits : (image : List ℕ) (top : ℕ) → top ≡ top_level image → (0 < top) × (top < 65536)
top_fits image top e = rw e (top_range image)

pub lamp_is : (m : ℕ) (image : List ℕ) (l s : ℕ) (on : Bool) (top v switch r : ℕ) → is_dot m l s ≡ true → on ≡ is_on image → top ≡ top_level image →
    v ≡ level_of image (18 * l + s) → switch ≡ cond (is_dot m l s) (field_of Switch image l s) 0 → r ≡ dot_char on top v switch → r ≡ lamp_char m image l s
lamp_is m image l s on top v switch r e ho ht hv hs hr =
    let there : switch ≡ field_of Switch image l s = hs ∙ rw e refl in
    hr ∙ rw (ho, ht, hv, there) (sym (lamp_there m image l s e))

-- ---- differences

module _ (m : ℕ) (held asked : List ℕ) where
  -- where none of n registers differs, those from behind them on are listed
  skips : (n a : ℕ) → a + n ≤ 908 → ((k : ℕ) → a ≤ k → k < a + n → differs m held asked k ≡ false) → differing_from m held asked a ≡ differing_from m held asked (a + n)
  skips zero a u h = rw add-zero refl
  skips (suc n) a u h =
      differing_fails m held asked a (omega arith) (h a (omega arith) (omega arith))
      ∙ skips n (a + 1) (omega arith) (λ k l v. h k (omega arith) (omega arith))
      ∙ ap (differing_from m held asked) (omega arith)

  pub first_found : (r : Option ℕ) →
      MatchOption r ((k : ℕ) → 0 ≤ k → k < 908 → differs m held asked k ≡ false)
      (λ a. (0 ≤ a) × (a < 908) × (differs m held asked a ≡ true) × ((k : ℕ) → 0 ≤ k → k < a → differs m held asked k ≡ false)) →
      MatchOption r (First m held asked 0 908) (λ a. (a < 908) × First m held asked 0 a)
  first_found None h = record { low = omega arith; high = omega arith; same = skips 908 0 (omega arith) h; holds = λ u. absurd (omega arith) }
  first_found (Some a) h =
      (h.1, record { low = omega arith; high = omega arith; same = skips a 0 (omega arith) (λ k l u. h.3 k l (omega arith)) ∙ ap (differing_from m held asked) (zero-add a); holds = λ u. h.2 })

pub register_put : (old : List ℕ) (at : ℕ) (held asked : List ℕ) (a x y : ℕ) (mid : List ℕ) (next : ℕ) (new : List ℕ) (r : ℕ) → x ≡ get_or held a 0 → y ≡ get_or asked a 0 →
    Puts old at (address_text a) mid next → Puts mid next (spaced_bytes_text (x ∷ y ∷ [])) new r → Puts old at (register_text held asked a) new r
unfolding register_text
register_put old at held asked a x y mid next new r hx hy p q =
    puts_as old at (address_text a ++ spaced_bytes_text (x ∷ y ∷ [])) (register_text held asked a) new r (rw (hx, hy) refl)
    (puts_then old at (address_text a) mid next (spaced_bytes_text (x ∷ y ∷ [])) new r p q)

-- the first register and those before this address are put
abbrev pub Listed : ℕ → List ℕ → List ℕ → ℕ → List ℕ → ℕ → List ℕ → ℕ → ℕ → Type 0
Listed m held asked first old at text next a = Lines (register_text held asked) old at (differing_from m held asked (first + 1)) (differing_from m held asked a) text next

module _ (m : ℕ) (held asked : List ℕ) (first : ℕ) (old : List ℕ) (at : ℕ) where
  pub listed_first : Listed m held asked first old at old at (first + 1)
  listed_first = putting_none old at (each_text (next_line (register_text held asked)) (differing_from m held asked (first + 1)))

  module _ (text : List ℕ) (next a : ℕ) (w : Listed m held asked first old at text next a) where
    pub listed_more : (mid : List ℕ) (between : ℕ) (new : List ℕ) (r : ℕ) → a < 908 → differs m held asked a ≡ true → Puts text next (0x0A ∷ []) mid between →
        Puts mid between (register_text held asked a) new r → Listed m held asked first old at new r (a + 1)
    listed_more mid between new r h d p q =
        lines_more (register_text held asked) old at (differing_from m held asked (first + 1)) (differing_from m held asked a) text next w a
        (differing_from m held asked (a + 1)) mid between new r (differing_holds m held asked a h d) p q

    pub listed_not : a < 908 → differs m held asked a ≡ false → Listed m held asked first old at text next (a + 1)
    listed_not h d = rw (differing_fails m held asked a h d) at w

    pub listed_all : (start : List ℕ) (place : ℕ) → first < 908 → differs m held asked first ≡ true → Puts start place (register_text held asked first) old at → a ≡ 908 →
        Puts start place (lines_text (register_text held asked) (differing_from m held asked first)) text next
    listed_all start place h d p end =
        rw (differing_holds m held asked first h d)
        (lines_all (register_text held asked) old at (differing_from m held asked (first + 1)) (differing_from m held asked a) text next w start place first p
        (ap (differing_from m held asked) end ∙ differing_none m held asked))

module _ (m : ℕ) (held asked : List ℕ) (old : List ℕ) (at : ℕ) (new : List ℕ) (r : ℕ) where
  pub differences_some : (first : ℕ) → (first < 908) × First m held asked 0 first →
      Puts old at (lines_text (register_text held asked) (differing_from m held asked first)) new r → Puts old at (differences_text m held asked) new r
  unfolding differences_text or_same
  differences_some first w p =
      let some = differing_holds m held asked first w.0 (w.1.holds w.0) in
      rw (w.1.same, some) (rw some at p)

  pub differences_none : First m held asked 0 908 → Puts old at same_word new r → Puts old at (differences_text m held asked) new r
  unfolding differences_text or_same
  differences_none w p = rw (w.same, differing_none m held asked) p
