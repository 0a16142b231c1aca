-- The turns of the loops that read a line, over plain lists.
-- Assumes nothing.
use Rattle.std.proofs.Common.{◌≡◌, refl, sym, ap, ◌∙◌, Bool, true, false, cond, List, [], ◌∷◌, ℕ, zero, suc, ◌+◌, ◌*◌, ◌≤◌, ◌<◌, eqb, ltb, leb, length, get_or, drop, drop-cons, add-one, arith, lt-ltb, le-ltb, le-leb, ltb-false, Some, None, Option}
use Rattle.std.proofs.Math.Nat.{mul-le-mul_right}
use Rattle.std.proofs.Math.ListN.{drop_of_length-le}
use Rattle.std.proofs.Math.Seq.{length-take-le}
use Rattle.std.proofs.lemmas.Bool.{lt-leb}
use Rattle.std.proofs.lemmas.Bool.Decides.{nat_tests}
use Rattle.std.specs.Prelude.{◌&&◌, not, position, unwrap_or, option_map, slice_get}
use Rattle.std.specs.List.{slice_split, onto_first, position_or_len}
use Rattle.std.proofs.lemmas.List.Recursion.{is_position_or_len}
use Rattle.std.proofs.lemmas.List.Sums.{prefix_len-le-length}
use Rattle.std.proofs.lemmas.Option.{unwrap_or-slice_get}
use denote.Ref.{Bor}
use Rattle.script.specs.Numbers.{digit_of, digit_value, is_digit, all_digits, value_from, is_numeral, numeral_of}
use Rattle.script.specs.Bytes.{pair_of, bytes_of}
use Rattle.text.specs.Text.{Puts}
use Rattle.text.specs.TextLaws.{after_inside, puts_length, Putting, putting_none, putting_more, putting_all}
use Rattle.io.specs.Counts.{IsPrefixLen}
use Rattle.script.specs.Words.{length_to, first_word, behind, word_at}

-- one element, and what is left behind it
pub next_left : (l : List ℕ) (i : ℕ) → i < length l → drop i l ≡ get_or l i 0 ∷ drop (i + 1) l
next_left l i h = drop-cons l i 0 h ∙ ap (λ (k : ℕ). get_or l i 0 ∷ drop k l) (sym (add-one i))

-- ---- words

pub word_empty : (n : ℕ) → word_at [] n ≡ []
unfolding word_at behind first_word length_to
word_empty zero = refl
word_empty (suc n) = word_empty n

parts_empty : (n : ℕ) → get_or {A = List ℕ} ([] ∷ []) n [] ≡ []
parts_empty zero = refl
parts_empty (suc n) = refl

onto_here : (b : ℕ) (ps : List (List ℕ)) → get_or (onto_first b ps) 0 [] ≡ b ∷ get_or ps 0 []
onto_here b [] = refl
onto_here b (p ∷ ps) = refl

onto_later : (b : ℕ) (ps : List (List ℕ)) (n : ℕ) → get_or (onto_first b ps) (suc n) [] ≡ get_or ps (suc n) []
onto_later b [] n = refl
onto_later b (p ∷ ps) n = refl

-- the parts between spaces are the words
pub split_word : (l : List ℕ) (n : ℕ) → get_or (slice_split (λ b. eqb b 0x20) l) n [] ≡ word_at l n
unfolding word_at behind first_word length_to
split_word [] n = parts_empty n ∙ sym (word_empty n)
split_word (b ∷ l) n = go (eqb b 0x20) n (λ k. split_word l k) refl
  where
    parts : List (List ℕ)
    parts = slice_split (λ b. eqb b 0x20) l

    go : (t : Bool) (n : ℕ) → ((k : ℕ) → get_or parts k [] ≡ word_at l k) → eqb b 0x20 ≡ t → get_or (slice_split (λ b. eqb b 0x20) (b ∷ l)) n [] ≡ word_at (b ∷ l) n
    go true zero rest e = rw (e, length_to) refl
    go true (suc n) rest e = rw (e, length_to) (rest n)
    go false zero rest e = rw (e, length_to) (onto_here b parts ∙ ap (λ (w : List ℕ). b ∷ w) (rest zero))
    go false (suc n) rest e = rw (e, length_to) (onto_later b parts n ∙ rest (suc n))

length_to_is : (mark : ℕ) (l : List ℕ) → length_to mark l ≡ position_or_len (λ b. eqb b mark) l
unfolding length_to
length_to_is mark l = is_position_or_len (length_to mark) (λ b. eqb b mark) refl (λ x xs. step (eqb x mark) (length_to mark xs)) l
  where
    step : (t : Bool) (n : ℕ) → elim t [ true ↦ 0 | false ↦ suc n ] ≡ cond t 0 (1 + n)
    step true n = refl
    step false n = omega arith

pub mark_end : (mark : ℕ) (l : List ℕ) (o : Option ℕ) (r : ℕ) → r ≡ unwrap_or o (length l) → o ≡ position (λ b. eqb b mark) l → (r ≡ length_to mark l) × (r ≤ length l)
mark_end mark l o r u f = go (ltb n (length l)) refl
  where
    e : r ≡ unwrap_or (position (λ b. eqb b mark) l) (length l)
    e = u ∙ ap (λ (x : Option ℕ). unwrap_or x (length l)) f

    n : ℕ
    n = position_or_len (λ b. eqb b mark) l

    le : n ≤ length l
    le = omega (arith, prefix_len-le-length (λ b. not (eqb b mark)) l)

    go : (t : Bool) → ltb n (length l) ≡ t → (r ≡ length_to mark l) × (r ≤ length l)
    go true h =
        let same : r ≡ n = e ∙ rw h refl in
        (same ∙ sym (length_to_is mark l), omega (arith, le))
    go false h =
        let same : r ≡ length l = e ∙ rw h refl in
        let past = ltb-false n (length l) h in
        let end : length l ≡ n = omega (arith, le) in
        (same ∙ end ∙ sym (length_to_is mark l), omega arith)

-- a word that is found, or an empty one
pub found_word : (l : List ℕ) (n : ℕ) (o : Option (Bor (List ℕ))) (d r : Bor (List ℕ)) → r ≡ unwrap_or o d → d.now ≡ [] →
    option_map (λ x. x.now) o ≡ slice_get (slice_split (λ b. eqb b 0x20) l) n → r.now ≡ word_at l n
found_word l n o d r u e s =
    ap (λ (x : Bor (List ℕ)). x.now) u ∙ inner o ∙ ap (unwrap_or (option_map (λ x. x.now) o)) e ∙ ap (λ (x : Option (List ℕ)). unwrap_or x []) s
    ∙ unwrap_or-slice_get (slice_split (λ b. eqb b 0x20) l) n [] ∙ split_word l n
  where
    inner : (o : Option (Bor (List ℕ))) → (unwrap_or o d).now ≡ unwrap_or (option_map (λ x. x.now) o) d.now
    inner None = refl
    inner (Some x) = refl

-- ---- numbers

pub digit_below : (b : ℕ) → unwrap_or (digit_of b) 0 < 16
unfolding digit_of
digit_below b = grind (arith, nat_tests)

-- what the digits that are left say, behind digits that say v
pub rest_of : ℕ → ℕ → ℕ → List ℕ → Option ℕ
rest_of base most v w = cond (all_digits base w && leb (value_from base v w) most) (Some (value_from base v w)) None

pub rest_first : (base digits most : ℕ) (w : List ℕ) → 0 < length w → length w ≤ digits → rest_of base most 0 w ≡ numeral_of base digits most w
unfolding numeral_of is_numeral rest_of
rest_first base digits most w s f = rw (lt-ltb 0 (length w) s, le-leb (length w) digits f) refl

pub read_empty : (base digits most : ℕ) (w : List ℕ) → length w ≡ 0 → None ≡ numeral_of base digits most w
unfolding numeral_of is_numeral
read_empty base digits most w h = rw (le-ltb 0 (length w) (omega arith)) refl

pub read_many : (base digits most : ℕ) (w : List ℕ) → digits < length w → None ≡ numeral_of base digits most w
unfolding numeral_of is_numeral
read_many base digits most w h = rw (lt-ltb 0 (length w) (omega arith), lt-leb (length w) digits h) refl

-- digits that follow make no number smaller
value_least : (base : ℕ) → 1 ≤ base → (w : List ℕ) (v : ℕ) → v ≤ value_from base v w
unfolding value_from
value_least base h [] v = omega arith
value_least base h (b ∷ w) v =
    let rest = value_least base h w (base * v + digit_value b) in
    let once : 1 * v ≤ base * v = mul-le-mul_right v h in
    omega (arith, rest, once)

module _ (base most v b : ℕ) (w : List ℕ) where
  pub rest_wrong : base ≤ digit_value b → rest_of base most v (b ∷ w) ≡ None
  unfolding rest_of
  rest_wrong h =
      let no : is_digit base b ≡ false = le-ltb (digit_value b) base h in
      rw (all_digits, no) refl

  pub rest_more : digit_value b < base → rest_of base most v (b ∷ w) ≡ rest_of base most (base * v + digit_value b) w
  unfolding rest_of value_from
  rest_more h =
      let yes : is_digit base b ≡ true = lt-ltb (digit_value b) base h in
      rw (all_digits, yes) refl

pub rest_large : (base most v : ℕ) (w : List ℕ) → 1 ≤ base → most < v → rest_of base most v w ≡ None
unfolding rest_of
rest_large base most v w h m =
    let least = value_least base h w v in
    rw (lt-leb (value_from base v w) most (omega (arith, least))) (never (all_digits base w))
  where
    never : (t : Bool) → cond (t && false) (Some (value_from base v w)) None ≡ None
    never true = refl
    never false = refl

pub rest_all : (base most v : ℕ) → v ≤ most → rest_of base most v [] ≡ Some v
unfolding rest_of value_from
rest_all base most v h = rw (le-leb v most h) refl

-- a turn of the loop that reads a number: at place i, behind digits that say v
module _ (base digits most : ℕ) (w : List ℕ) (i v : ℕ) (h : i < length w) (here : rest_of base most v (drop i w) ≡ numeral_of base digits most w) where
  turn : rest_of base most v (get_or w i 0 ∷ drop (i + 1) w) ≡ numeral_of base digits most w
  turn = ap (rest_of base most v) (sym (next_left w i h)) ∙ here

  pub read_wrong : (d : ℕ) → d ≡ digit_value (get_or w i 0) → base ≤ d → None ≡ numeral_of base digits most w
  read_wrong d e l = sym (rest_wrong base most v (get_or w i 0) (drop (i + 1) w) (omega (arith, e))) ∙ turn

  pub read_more : (d : ℕ) → d ≡ digit_value (get_or w i 0) → d < base → rest_of base most (base * v + d) (drop (i + 1) w) ≡ numeral_of base digits most w
  read_more d e l =
      ap (λ (x : ℕ). rest_of base most (base * v + x) (drop (i + 1) w)) e
      ∙ sym (rest_more base most v (get_or w i 0) (drop (i + 1) w) (omega (arith, e))) ∙ turn

  pub read_large : (d : ℕ) → d ≡ digit_value (get_or w i 0) → d < base → most < base * v + d → None ≡ numeral_of base digits most w
  read_large d e l m = sym (rest_large base most (base * v + d) (drop (i + 1) w) (omega arith) m) ∙ read_more d e l

pub read_all : (base digits most : ℕ) (w : List ℕ) (i v : ℕ) → length w ≤ i → v ≤ most → rest_of base most v (drop i w) ≡ numeral_of base digits most w →
    Some v ≡ numeral_of base digits most w
read_all base digits most w i v h m here = sym (rest_all base most v m) ∙ ap (rest_of base most v) (sym (drop_of_length-le w h)) ∙ here

-- ---- byte strings

bytes_next : (w : List ℕ) → 2 ≤ length w → bytes_of w ≡ pair_of (get_or w 0 0) (get_or w 1 0) ∷ bytes_of (drop 2 w)
unfolding bytes_of
bytes_next [] h = absurd (omega arith)
bytes_next (x ∷ []) h = absurd (omega arith)
bytes_next (x ∷ (y ∷ w)) h = refl

bytes_none : (w : List ℕ) → length w < 2 → bytes_of w ≡ []
unfolding bytes_of
bytes_none [] h = refl
bytes_none (x ∷ []) h = refl
bytes_none (x ∷ (y ∷ w)) h = absurd (omega arith)

-- what a loop has decoded: all but the digits that are left
pub record Decodes (old w rest buffer : List ℕ) (at : ℕ) : Type 0 where
  pub inside : at ≤ length buffer
  pub size : length buffer ≡ length old
  pub puts : Putting old 0 (bytes_of w) (bytes_of rest) buffer at

pub decodes_none : (old w : List ℕ) → Decodes old w w old 0
decodes_none old w = record { inside = omega arith; size = refl; puts = putting_none old 0 (bytes_of w) }

pub decodes_more : (old w rest buffer : List ℕ) (at b : ℕ) (new : List ℕ) (r : ℕ) (left : List ℕ) → 2 ≤ length rest →
    b ≡ pair_of (get_or rest 0 0) (get_or rest 1 0) → Puts buffer at (b ∷ []) new r → Decodes old w rest buffer at → left ≡ drop 2 rest → Decodes old w left new r
decodes_more old w rest buffer at b new r left h e p d same = record {
  inside = rw (p.place, puts_length buffer at (b ∷ []) new r p) (after_inside (length buffer) at (b ∷ []) d.inside);
  size = puts_length buffer at (b ∷ []) new r p ∙ d.size;
  puts = rw same (putting_more old 0 (bytes_of w) buffer at (b ∷ []) (bytes_of (drop 2 rest)) new r
      (rw (bytes_next rest h, ← e) at d.puts) p);
}

pub decodes_all : (old w rest buffer : List ℕ) (at : ℕ) → length rest < 2 → Decodes old w rest buffer at →
    Puts old 0 (bytes_of w) buffer at × IsPrefixLen at buffer
decodes_all old w rest buffer at h d =
    (putting_all old 0 (bytes_of w) buffer at (rw (bytes_none rest h) at d.puts), (d.inside, sym (length-take-le at buffer d.inside)))
