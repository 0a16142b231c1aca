-- How a line is judged, over plain values.
-- Assumes nothing.
use Rattle.std.proofs.Common.{◌≡◌, ℕ, suc, ◌+◌, ◌-◌, ◌≤◌, arith, Bool, cond, length, List, [], ◌∷◌, refl, ap, ◌∙◌, sym}
use Rattle.std.proofs.Math.ListN.{get_or-eq_default, get_or-map}
use Rattle.std.specs.Prelude.{position, map, not, bytes_eq, Option}
use Rattle.std.specs.List.{position_or_len}
use Rattle.std.specs.Prelude.{option_map, option_copied, find, Some, get_or, eqb}
use denote.Ref.{Bor}
use Rattle.script.specs.declared.lines.NumberKind.{NumberKind}
use Rattle.script.specs.declared.lines.Form.{Form}
use Rattle.script.specs.Table.{place_of}
use Rattle.script.specs.Words.{word_at}
use Rattle.script.specs.declared.command.Command.TheVariants as commands
use Rattle.script.specs.declared.command.Line.TheVariants.{Run}
use Rattle.script.specs.declared.command.Line.{Line}
use Rattle.script.specs.Lines.{Row, lines, first_words, other_kinds, arguments_of, called_by, judged, kind_among, no_line, line_at, call_at}

length_map : {X Y : Type 0} (f : X → Y) (xs : List X) → length (map f xs) ≡ length xs
length_map f [] = refl
length_map f (x ∷ xs) = ap suc (length_map f xs)

place_map : {X Y : Type 0} (f : X → Y) (p : Y → Bool) (xs : List X) → position_or_len p (map f xs) ≡ position_or_len (λ x. p (f x)) xs
place_map f p [] = refl
place_map f p (x ∷ xs) = ap (λ (n : ℕ). cond (not (p (f x))) (1 + n) 0) (place_map f p xs)

-- the place of a word among the words of some rows
pub place_by : {X : Type 0} (f : X → List ℕ) (w : List ℕ) (xs : List X) (names : List (List ℕ)) (o : Option ℕ) → map f xs ≡ names →
    o ≡ position (λ x. bytes_eq w (f x)) xs → o ≡ place_of w names
place_by f w xs names o e h = h ∙ rw (length_map f xs, place_map f (bytes_eq w) xs) at (ap (position (bytes_eq w)) e)

-- the kind of numbers that is found
pub kind_found : (xs : List NumberKind) (k : ℕ) (o : Option (Bor NumberKind)) (r : Option NumberKind) → r ≡ option_copied o →
    option_map (λ x. x.now) o ≡ find (λ (x : NumberKind). eqb x.letter k) xs → r ≡ kind_among xs k
unfolding kind_among
kind_found xs k o r e h = e ∙ h ∙ among xs
  where
    among : (xs : List NumberKind) → find (λ (x : NumberKind). eqb x.letter k) xs ≡ kind_among xs k
    among [] = refl
    among (x ∷ xs) = (ap (cond (eqb x.letter k) (Some x)) (among xs))

-- no row, for what is not there
abbrev pub no_form : Form
no_form = record { 0 = record { ref_ptr = (0, 0); now = [] }; 1 = record { ref_ptr = (0, 0); now = [] } }

-- the kinds of the words of row k
pub kinds_at : (fs : List Form) (k : ℕ) (x : Form) → x ≡ get_or fs k no_form → x.1.now ≡ get_or (map (λ (f : Form). f.1.now) fs) k []
kinds_at fs k x h = ap (λ (f : Form). f.1.now) h ∙ sym (get_or-map (λ (f : Form). f.1.now) fs k no_form)

-- a row behind n others
pub call_behind : (k n a b c : ℕ) (r : Line) → n ≤ k → r ≡ call_at (n + (k - n)) a b c → r ≡ call_at k a b c
call_behind k n a b c r h e =
    let same : n + (k - n) ≡ k = omega arith in
    e ∙ ap (λ (j : ℕ). call_at j a b c) same

-- a line of row k, by the kinds that the row has
pub judged_here : (l w ks : List ℕ) (names kinds : List (List ℕ)) (p : Option ℕ) (k : ℕ) (x : Option (ℕ × ℕ × ℕ)) → names ≡ first_words → kinds ≡ other_kinds →
    w ≡ word_at l 0 → p ≡ place_of w names → p ≡ Some k → ks ≡ get_or kinds k [] → x ≡ arguments_of ks l →
    option_map (λ (w : ℕ × ℕ × ℕ). call_at k w.0 w.1 w.2) x ≡ called_by (place_of (word_at l 0) first_words) l
unfolding called_by judged other_kinds line_at no_line
judged_here l w ks names kinds p k x en ef ew ep eq ek ex =
    let row : place_of (word_at l 0) first_words ≡ Some k = rw (← ew, ← en) (sym ep ∙ eq) in
    rw (row, ex, ek, ef, get_or-map (λ (r : Row). r.kinds) lines k no_line) refl

-- behind the last row there is no line
pub no_call : (k a b c : ℕ) → length lines ≤ k → Run commands.Bad ≡ call_at k a b c
unfolding call_at line_at no_line
no_call k a b c h = ap (λ (r : Row). r.call a b c) (sym (get_or-eq_default lines no_line h))
