-- One lemma for each end of the functions that put a text, and for each turn of their loops.
-- Assumes nothing.
use mathlib.Core.Path.{◌≡◌, refl, sym, ap, ◌∙◌}
use mathlib.Core.List.{List, [], ◌∷◌, ◌++◌}
use Prim.Native.Nat.{ℕ, ◌+◌, ◌/◌, ◌%◌, ◌<◌, ◌≤◌}
use native.Mathlib.Numerals.{add-one}
use borrow.Author.Tests.{eq-eqb, ne_eqb}
use lib.ListN.{length, get_or, drop, drop_of_length-le}
use lib.Seq.{drop-cons}
use Rattle.text.specs.Text.{Puts, digit, byte_text, address_text, decimal_text, each_text, spaced_text, bytes_text}
use Rattle.text.specs.TextLaws.{puts_then, puts_as, Putting, putting_more, putting_all, decimal_small, decimal_more}

-- ---- digits

module _ (old : List ℕ) (at : ℕ) (mid : List ℕ) (next : ℕ) (new : List ℕ) (r : ℕ) where
  pub byte_put : (v d e : ℕ) → d ≡ digit (v / 16) → Puts old at (d ∷ []) mid next → e ≡ digit v → Puts mid next (e ∷ []) new r →
      Puts old at (byte_text v) new r
  unfolding byte_text
  byte_put v d e hd p he q = puts_as old at (d ∷ e ∷ []) (digit (v / 16) ∷ digit v ∷ []) new r (rw (hd, he) refl) (puts_then old at (d ∷ []) mid next (e ∷ []) new r p q)

  pub address_put : (a d : ℕ) → d ≡ digit (a / 256) → Puts old at (d ∷ []) mid next → Puts mid next (byte_text (a % 256)) new r → Puts old at (address_text a) new r
  unfolding address_text
  address_put a d hd p q =
      puts_as old at (d ∷ byte_text (a % 256)) (digit (a / 256) ∷ byte_text (a % 256)) new r (rw hd refl) (puts_then old at (d ∷ []) mid next (byte_text (a % 256)) new r p q)

  pub spaced_put : (v : ℕ) → Puts old at (0x20 ∷ []) mid next → Puts mid next (byte_text v) new r → Puts old at (spaced_text v) new r
  unfolding spaced_text
  spaced_put v p q = puts_then old at (0x20 ∷ []) mid next (byte_text v) new r p q

  pub decimal_put : (v d : ℕ) → 10 ≤ v → Puts old at (decimal_text (v / 10)) mid next → d ≡ digit (v % 10) → Puts mid next (d ∷ []) new r → Puts old at (decimal_text v) new r
  decimal_put v d h p hd q =
      puts_as old at (decimal_text (v / 10) ++ (d ∷ [])) (decimal_text v) new r (rw hd (sym (decimal_more v h))) (puts_then old at (decimal_text (v / 10)) mid next (d ∷ []) new r p q)

pub decimal_digit_put : (old : List ℕ) (at v d : ℕ) (new : List ℕ) (r : ℕ) → v < 10 → d ≡ digit v → Puts old at (d ∷ []) new r → Puts old at (decimal_text v) new r
decimal_digit_put old at v d new r h hd p = puts_as old at (d ∷ []) (decimal_text v) new r (rw hd (sym (decimal_small v h))) p

-- ---- the loops over bytes

each_step : {A : Type 0} (f : A → List ℕ) (items : List A) (i : ℕ) (x : A) → i < length items → each_text f (drop i items) ≡ f (get_or items i x) ++ each_text f (drop (i + 1) items)
unfolding each_text
each_step f items i x h = ap (each_text f) (drop-cons items i x h) ∙ ap (λ (k : ℕ). f (get_or items i x) ++ each_text f (drop k items)) (sym (add-one i))

-- i of them are put, each as f has it, and the others are left
abbrev pub Each : {A : Type 0} → (A → List ℕ) → List ℕ → ℕ → List A → List ℕ → ℕ → ℕ → Type 0
Each f old at items text next i = Putting old at (each_text f items) (each_text f (drop i items)) text next

pub each_more : {A : Type 0} (f : A → List ℕ) (old : List ℕ) (at : ℕ) (items : List A) (text : List ℕ) (next i : ℕ) (x : A) (new : List ℕ) (r : ℕ) → i < length items →
    x ≡ get_or items i x → Each f old at items text next i → Puts text next (f x) new r → Each f old at items new r (i + 1)
each_more f old at items text next i x new r h is e p =
    putting_more old at (each_text f items) text next (f x) (each_text f (drop (i + 1) items)) new r
    (rw (each_step f items i x h, ← is) at e) p

pub each_all : {A : Type 0} (f : A → List ℕ) (old : List ℕ) (at : ℕ) (items : List A) (text : List ℕ) (next i : ℕ) → length items ≤ i → Each f old at items text next i →
    Puts old at (each_text f items) text next
unfolding each_text
each_all f old at items text next i h e = putting_all old at (each_text f items) text next (rw (drop_of_length-le items h) at e)

-- bytes as they are
each_byte : (bytes : List ℕ) → each_text (λ v. v ∷ []) bytes ≡ bytes
unfolding each_text
each_byte [] = refl
each_byte (v ∷ vs) = ap (λ (l : List ℕ). v ∷ l) (each_byte vs)

pub text_all : (old : List ℕ) (at : ℕ) (bytes text : List ℕ) (next : ℕ) → Puts old at (each_text (λ v. v ∷ []) bytes) text next → Puts old at bytes text next
text_all old at bytes text next p = puts_as old at (each_text (λ v. v ∷ []) bytes) bytes text next (each_byte bytes) p

-- ---- byte strings

pub bytes_none : (old : List ℕ) (at : ℕ) (bytes new : List ℕ) (r : ℕ) → length bytes ≡ 0 → Puts old at (0x2D ∷ []) new r → Puts old at (bytes_text bytes) new r
unfolding bytes_text
bytes_none old at bytes new r e p = rw (eq-eqb (length bytes) 0 e) p

pub bytes_some : (old : List ℕ) (at : ℕ) (bytes new : List ℕ) (r : ℕ) → (length bytes ≡ 0 → ⊥) → Puts old at (each_text byte_text bytes) new r → Puts old at (bytes_text bytes) new r
unfolding bytes_text
bytes_some old at bytes new r e p = rw (ne_eqb (length bytes) 0 e) p
