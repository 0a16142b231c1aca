-- Laws of Lines.antt: what a command asks for is there.
-- Assumes nothing.
use Rattle.std.specs.Prelude.{◌≡◌, refl, Option, None, Some, unwrap_or, option_map, Bool, true, false, cond, ◌&&◌, List, [], ◌∷◌, ◌++◌, ℕ, zero, suc, min, ◌+◌, ◌≤◌, ◌<◌, ltb, leb, eqb, length, get_or, take, drop}
use Rattle.std.proofs.Common.{sym, subst, ◌∙◌, arith, leb-true, ltb-true}
use Rattle.calls.specs.declared.Request.{Request}
use Rattle.calls.specs.declared.Request.TheVariants.{Set, Reset, PowerLost, Update, Lock}
use Rattle.script.specs.declared.command.Command.{Command}
use Rattle.script.specs.declared.command.Command.TheVariants.{Bad, Open, Call, Clear, Feed, Faults, Show, Poke, Header, Check, Pending, Marks}
use Rattle.script.specs.declared.command.Line.{Line}
use Rattle.script.specs.declared.command.Line.TheVariants.{Run, Aside, Panel, Round}
use Rattle.script.specs.declared.command.Aside as asides
use Rattle.script.specs.declared.command.Aside.TheVariants.{Silent, Echo, Lamps, FaultMap, Diff, List as LastList}
use Rattle.script.specs.declared.command.Lent.{Lent}
use Rattle.script.specs.declared.command.Lent.TheVariants.{Nothing, Word, Room}
use Rattle.script.specs.declared.command.Part.TheVariants.{Chip}
use Rattle.script.specs.declared.command.Entry.{Entry}
use Rattle.script.specs.declared.command.Entry.TheVariants.{Member, Bus, Pins, Lock as LockMark}
use Rattle.script.specs.declared.lines.NumberKind.{NumberKind}
use Rattle.std.specs.List.{position_or_len}
use Rattle.script.specs.Words.{codes, word_at, word_count, same_text}
use Rattle.script.specs.Numbers.{all_digits, value_from, is_numeral, numeral_of}
use Rattle.script.specs.Bytes.{is_bytes}
use Rattle.script.specs.Table.{place_of}
use Rattle.script.specs.Lines.{bytes, part, entry, on_off, number_kinds, kind_among, parts, entries, header_line, switches}
use Rattle.script.specs.Lines.{Row, lines, first_words, no_line, line_at, numeral_by, argument_of, value_at, three_of, arguments_of, call_at, called_by, judged, is_silent, table_line, line_of}

-- ---- what a command asks for is there: the line of a byte string has at most 8,192 bytes, a buffer at most 8,192, a byte that is put
-- behind the calls' back is one, at an address below 908, and there are four panels

unfoldable pub LentFits : List ℕ → Lent → Type 0
LentFits l Nothing = 0 ≤ 0
LentFits l (Word n) = length l ≤ 8192
LentFits l (Room n) = n ≤ 8192

-- a buffer is lent to a call that writes a list, and to no other
unfoldable pub BufferFits : Request → Lent → Type 0
BufferFits q Nothing = 0 ≤ 0
BufferFits q (Word n) = 0 ≤ 0
BufferFits (Set q) (Room n) = 1 ≤ 0
BufferFits Reset (Room n) = 0 ≤ 0
BufferFits PowerLost (Room n) = 1 ≤ 0
BufferFits Update (Room n) = 0 ≤ 0
BufferFits Lock (Room n) = 1 ≤ 0

unfoldable pub AsideFits : List ℕ → asides.Aside → Type 0
AsideFits l Silent = 0 ≤ 0
AsideFits l (Echo on) = 0 ≤ 0
AsideFits l (Lamps p) = 0 ≤ 0
AsideFits l (FaultMap n) = length l ≤ 8192
AsideFits l Diff = 0 ≤ 0
AsideFits l LastList = 0 ≤ 0

unfoldable pub CommandFits : List ℕ → Command → Type 0
CommandFits l Bad = 0 ≤ 0
CommandFits l (Open m b p) = 0 ≤ 0
CommandFits l (Call q lent) = LentFits l lent × BufferFits q lent
CommandFits l (Clear n) = n ≤ 8192
CommandFits l (Feed n) = length l ≤ 8192
CommandFits l (Faults k n) = (length l ≤ 8192) × (n ≤ 8192)
CommandFits l (Show p) = 0 ≤ 0
CommandFits l (Poke p a v) = (a < 908) × (v < 256)
CommandFits l (Header e v) = v < 256
CommandFits l Check = 0 ≤ 0
CommandFits l Pending = 0 ≤ 0
CommandFits l Marks = 0 ≤ 0

unfoldable pub Fits : List ℕ → Line → Type 0
Fits l (Run c) = CommandFits l c
Fits l (Aside x) = AsideFits l x
Fits l (Panel k) = k < 4
Fits l (Round p b n) = (p < 16) × (n ≤ 8192)

-- the largest number of a kind, where it is one of numbers
kind_most : Option NumberKind → ℕ
kind_most None = 0
kind_most (Some x) = x.most

-- the most that a word of a kind says
most_of : ℕ → ℕ
most_of k =
    cond (eqb k bytes) 0
    (cond (eqb k part) (length parts)
    (cond (eqb k entry) (length entries)
    (cond (eqb k on_off) (length switches) (kind_most (kind_among number_kinds k)))))

most_at : List ℕ → ℕ → ℕ
most_at ks n = cond (ltb n (length ks)) (most_of (get_or ks n 0)) 0

-- what a row calls with words that say no more than their kinds allow
call_within : Row → ℕ → ℕ → ℕ → Line
call_within r a b c = r.call (min a (most_at r.kinds 0)) (min b (most_at r.kinds 1)) (min c (most_at r.kinds 2))

EachFits : List ℕ → List Row → ℕ → ℕ → ℕ → Type 0
EachFits l [] a b c = 0 ≤ 0
EachFits l (r ∷ rs) a b c = Fits l (call_within r a b c) × EachFits l rs a b c

header_fits : (l : List ℕ) (e : Entry) (v : ℕ) → v < 256 → Fits l (header_line e v)
unfolding header_line Fits CommandFits
header_fits l Member v h = h
header_fits l Bus v h = h
header_fits l Pins v h = h
header_fits l LockMark v h = go (leb v 1)
  where
    go : (t : Bool) → Fits l (cond t (Run (Header LockMark v)) (Run Bad))
    go true = h
    go false = omega arith

each_joined : (l : List ℕ) (rs ss : List Row) (a b c : ℕ) → EachFits l rs a b c → EachFits l ss a b c → EachFits l (rs ++ ss) a b c
unfolding EachFits
each_joined l [] ss a b c h t = t
each_joined l (r ∷ rs) ss a b c h t = (h.0, each_joined l rs ss a b c h.1 t)

-- the rows before `header`, it, and those behind it
each_line_fits : (l : List ℕ) (a b c : ℕ) → length l ≤ 8192 → EachFits l lines a b c
unfolding EachFits lines call_within Fits CommandFits AsideFits LentFits BufferFits most_at most_of kind_most parts entries switches number_kinds kind_among
each_line_fits l a b c h = each_joined l (take 16 lines) (drop 16 lines) a b c (omega arith) (header_fits l _ _ (omega arith), omega arith)

row_fits : (l : List ℕ) (rs : List Row) (k a b c : ℕ) → EachFits l rs a b c → Fits l (call_within (get_or rs k no_line) a b c)
unfolding EachFits call_within Fits CommandFits no_line
row_fits l [] k a b c h = omega arith
row_fits l (r ∷ rs) zero a b c h = h.0
row_fits l (r ∷ rs) (suc k) a b c h = row_fits l rs k a b c h.1

-- a number that a word says, where it says one, is at most so large
Most : Option ℕ → ℕ → Type 0
Most x m = (v : ℕ) → x ≡ Some v → v ≤ m

most_value : (v m : ℕ) → v ≤ m → Most (Some v) m
unfolding Most
most_value v m h w e = let same : v ≡ w = cc in omega arith

most_none : (m : ℕ) → Most None m
unfolding Most
most_none m w e = let z : ◌≡◌ {A = ℕ} 0 1 = cc in absurd (omega arith)

most_when : (t : Bool) (v m : ℕ) → (t ≡ true → v ≤ m) → Most (cond t (Some v) None) m
most_when true v m h = most_value v m (h refl)
most_when false v m h = most_none m

most_either : (t : Bool) (x y : Option ℕ) (m n : ℕ) → Most x m → Most y n → Most (cond t x y) (cond t m n)
most_either true x y m n p q = p
most_either false x y m n p q = q

numeral_most : (base digits most : ℕ) (w : List ℕ) → Most (numeral_of base digits most w) most
unfolding numeral_of is_numeral
numeral_most base digits most w = go (ltb 0 (length w)) (leb (length w) digits) (all_digits base w) (leb (value_from base 0 w) most) refl
  where
    go : (s f d t : Bool) → leb (value_from base 0 w) most ≡ t → Most (cond (s && (f && (d && t))) (Some (value_from base 0 w)) None) most
    go true true true t e = most_when t (value_from base 0 w) most (λ h. leb-true (value_from base 0 w) most (e ∙ h))
    go true true false t e = most_none most
    go true false d t e = most_none most
    go false f d t e = most_none most

place_most : (w : List ℕ) (names : List (List ℕ)) → Most (place_of w names) (length names)
place_most w names =
    let n = position_or_len (λ (x : List ℕ). same_text w x) names in
    most_when (ltb n (length names)) n (length names) (λ h. let inside = ltb-true n (length names) h in omega arith)

kind_within : (x : Option NumberKind) (w : List ℕ) → Most (numeral_by x w) (kind_most x)
unfolding numeral_by kind_most
kind_within None w = most_none 0
kind_within (Some x) w = numeral_most x.base x.digits x.most w

argument_most : (k : ℕ) (w : List ℕ) → Most (argument_of k w) (most_of k)
unfolding argument_of most_of
argument_most k w =
    most_either (eqb k bytes) _ _ _ _ (most_when (is_bytes w) 0 0 (λ h. omega arith))
    (most_either (eqb k part) _ _ _ _ (place_most w parts)
    (most_either (eqb k entry) _ _ _ _ (place_most w entries)
    (most_either (eqb k on_off) _ _ _ _ (place_most w switches) (kind_within (kind_among number_kinds k) w))))

value_most : (ks l : List ℕ) (n : ℕ) → Most (value_at ks l n) (most_at ks n)
unfolding value_at most_at
value_most ks l n = most_either (ltb n (length ks)) _ _ _ _ (argument_most (get_or ks n 0) (word_at l (n + 1))) (most_value 0 0 (omega arith))

within_is : (r : Row) (a b c : ℕ) → a ≤ most_at r.kinds 0 → b ≤ most_at r.kinds 1 → c ≤ most_at r.kinds 2 → call_within r a b c ≡ r.call a b c
unfolding call_within
within_is r a b c ha hb hc = go r.call _ _ _ _ _ _ (omega arith) (omega arith) (omega arith)
  where
    go : (f : ℕ → ℕ → ℕ → Line) (x y z u v w : ℕ) → x ≡ u → y ≡ v → z ≡ w → f x y z ≡ f u v w
    go f x y z u v w p q r = rw (p, q, r) refl

call_fits : (l : List ℕ) (k a b c : ℕ) → length l ≤ 8192 → a ≤ most_at (line_at k).kinds 0 → b ≤ most_at (line_at k).kinds 1 → c ≤ most_at (line_at k).kinds 2 →
    Fits l (call_at k a b c)
unfolding call_at line_at
call_fits l k a b c h ha hb hc = subst (Fits l) (within_is (line_at k) a b c ha hb hc) (row_fits l lines k a b c (each_line_fits l a b c h))

judged_fits : (l : List ℕ) (k : ℕ) → length l ≤ 8192 → Fits l (unwrap_or (judged k l) (Run Bad))
unfolding judged arguments_of three_of Fits CommandFits Most
judged_fits l k h = go (eqb (word_count l) (length ks + 1)) (value_at ks l 0) (value_at ks l 1) (value_at ks l 2) (value_most ks l 0) (value_most ks l 1) (value_most ks l 2)
  where
    ks : List ℕ
    ks = (line_at k).kinds

    go : (t : Bool) (x y z : Option ℕ) → Most x (most_at ks 0) → Most y (most_at ks 1) → Most z (most_at ks 2) →
        Fits l (unwrap_or (option_map (λ (w : ℕ × ℕ × ℕ). call_at k w.0 w.1 w.2) (cond t (three_of x y z) None)) (Run Bad))
    go true (Some a) (Some b) (Some c) p q r = call_fits l k a b c h (p a refl) (q b refl) (r c refl)
    go true (Some a) (Some b) None p q r = omega arith
    go true (Some a) None z p q r = omega arith
    go true None y z p q r = omega arith
    go false x y z p q r = omega arith

called_fits : (l : List ℕ) (p : Option ℕ) → length l ≤ 8192 → Fits l (unwrap_or (called_by p l) (Run Bad))
unfolding called_by Fits CommandFits
called_fits l None h = omega arith
called_fits l (Some k) h = judged_fits l k h

table_fits : (l : List ℕ) → Fits l (table_line l)
unfolding table_line Fits CommandFits
table_fits l = go (leb (length l) 8192) refl
  where
    go : (t : Bool) → leb (length l) 8192 ≡ t → Fits l (cond t (unwrap_or (called_by (place_of (word_at l 0) first_words) l) (Run Bad)) (Run Bad))
    go true e = called_fits l (place_of (word_at l 0) first_words) (leb-true (length l) 8192 e)
    go false e = omega arith

line_fits : (l : List ℕ) → Fits l (line_of l)
unfolding line_of Fits AsideFits
line_fits l = go (is_silent l) (same_text l (codes "lamps")) (table_fits l)
  where
    go : (s t : Bool) → Fits l (table_line l) → Fits l (cond s (Aside Silent) (cond t (Aside (Lamps Chip)) (table_line l)))
    go true t h = omega arith
    go false true h = omega arith
    go false false h = h

-- x is what a line is
pub fits : (l : List ℕ) (x : Line) → x ≡ line_of l → Fits l x
fits l x e = subst (Fits l) (sym e) (line_fits l)
