-- The lines of a script: docs/REPLAY.md's table, a row a line. l is the ASCII codes of a line, w those of a word.
-- Assumes nothing.
use Rattle.std.specs.Prelude.{Bool, cond, ◌&&◌, ◌||◌, List, [], ◌∷◌, map, ℕ, ◌+◌, ◌-◌, eqb, ltb, leb, length, get_or, take, Option, None, Some, unwrap_or, option_map}
use Prim.Native.Char.{code}
use Prim.Native.String.{String}
use Rattle.calls.specs.declared.Setting.TheVariants.{Register, Lamp, Group, Switch, Scene}
use Rattle.calls.specs.declared.Request.TheVariants.{Set, Reset, PowerLost, Update, Lock}
use Rattle.script.specs.declared.command.Command.TheVariants.{Bad, Open, Call, Clear, Feed, Faults, Show, Poke, Header, Check, Pending, Marks}
use Rattle.script.specs.declared.command.Line.{Line}
use Rattle.script.specs.declared.command.Line.TheVariants.{Run, Aside, Panel, Round}
use Rattle.script.specs.declared.command.Aside.TheVariants.{Silent, Echo, Lamps, FaultMap, Diff, List as LastList}
use Rattle.script.specs.declared.command.Lent.TheVariants.{Nothing, Word, Room}
use Rattle.script.specs.declared.command.Part.{Part}
use Rattle.script.specs.declared.command.Part.TheVariants.{Settings, Image, Chip}
use Rattle.script.specs.declared.command.Entry.{Entry}
use Rattle.script.specs.declared.command.Entry.TheVariants.{Member, Bus, Pins, Lock as LockMark}
use Rattle.script.specs.declared.lines.NumberKind.{NumberKind}
use Rattle.script.specs.Words.{codes, word_at, word_count, same_text}
use Rattle.script.specs.Numbers.{numeral_of}
use Rattle.script.specs.Bytes.{is_bytes}
use Rattle.script.specs.Table.{place_of}

-- ---- the kinds of words, each by the letter that it has in the code's table

-- "Numbers are decimal unless said to be hex"
abbrev pub decimal : ℕ
decimal = code "d"

-- "A and V hex"
abbrev pub hex : ℕ
hex = code "h"

-- "V above FF prints `?`"
abbrev pub byte : ℕ
byte = code "b"

-- "decimal, at most 255, else `?`"
abbrev pub small : ℕ
small = code "n"

-- "A at most 38B"
abbrev pub address : ℕ
address = code "a"

-- "A buffer of L bytes (L at most 8,192, else `?`)"
abbrev pub room : ℕ
room = code "r"

-- "`panel K` (K 0 to 3, else `?`)"
abbrev pub place : ℕ
place = code "k"

-- "P decimal 0 to 15 (else `?`), bit k says that panel k is present"
abbrev pub marks : ℕ
marks = code "m"

-- "A byte string is pairs of hex digits"
abbrev pub bytes : ℕ
bytes = code "s"

-- "W is `settings`, `image` or `chip`"
abbrev pub part : ℕ
part = code "p"

-- "W is `member`, `bus` or `pins`", and since Q-5 `lock`
abbrev pub entry : ℕ
entry = code "e"

-- "`echo on`", "`echo off`"
abbrev pub on_off : ℕ
on_off = code "o"

-- a kind of numbers: its letter, the base, the most digits, and the largest number
abbrev kind : ℕ → ℕ → ℕ → ℕ → NumberKind
kind k b d m = record { letter = k; base = b; digits = d; most = m }

-- "a number above 4,294,967,295" is none, and "leading zeros are allowed": as many digits as a line has
unfoldable pub number_kinds : List NumberKind
number_kinds =
    kind decimal 10 8192 4294967295
    ∷ kind hex 16 8192 4294967295
    ∷ kind byte 16 8192 0xFF
    ∷ kind small 10 8192 255
    ∷ kind address 16 8192 0x38B
    ∷ kind room 10 8192 8192
    ∷ kind place 10 8192 3
    ∷ kind marks 10 8192 15
    ∷ []

-- the kind of letter k, where there is one
unfoldable pub kind_among : List NumberKind → ℕ → Option NumberKind
kind_among [] k = None
kind_among (x ∷ xs) k = cond (eqb x.letter k) (Some x) (kind_among xs k)

-- the words of W, and what each of them names
unfoldable pub parts : List (List ℕ)
parts = codes "settings" ∷ codes "image" ∷ codes "chip" ∷ []

unfoldable pub part_at : ℕ → Part
part_at n = cond (eqb n 0) Settings (cond (eqb n 1) Image Chip)

-- the words of W, and what each of them names
unfoldable pub entries : List (List ℕ)
entries = codes "member" ∷ codes "bus" ∷ codes "pins" ∷ codes "lock" ∷ []

unfoldable pub entry_at : ℕ → Entry
entry_at n = cond (eqb n 0) Member (cond (eqb n 1) Bus (cond (eqb n 2) Pins LockMark))

-- "`header lock V` puts V (0 or 1, else `?`) into the record only"; of the other entries V is what its kind allows
unfoldable pub header_line : Entry → ℕ → Line
header_line Member v = Run (Header Member v)
header_line Bus v = Run (Header Bus v)
header_line Pins v = Run (Header Pins v)
header_line LockMark v = cond (leb v 1) (Run (Header LockMark v)) (Run Bad)

-- the words `on` and `off`
unfoldable pub switches : List (List ℕ)
switches = codes "on" ∷ codes "off" ∷ []

-- ---- the table

-- a line's first word, the kinds of its other words, and what it is, by what those say
pub record Row : Type 0 where
  pub text : List ℕ
  pub kinds : List ℕ
  pub call : ℕ → ℕ → ℕ → Line

abbrev row : String → List ℕ → (ℕ → ℕ → ℕ → Line) → Row
row t ks f = record { text = codes t; kinds = ks; call = f }

-- the settings that are lent nothing stand first
unfoldable pub lines : List Row
lines =
    row "register" (hex ∷ byte ∷ []) (λ a v z. Run (Call (Set (Register a v)) Nothing))
    ∷ row "lamp" (decimal ∷ decimal ∷ decimal ∷ []) (λ l s v. Run (Call (Set (Lamp l s v)) Nothing))
    ∷ row "group" (decimal ∷ decimal ∷ decimal ∷ []) (λ l s g. Run (Call (Set (Group l s g)) Nothing))
    ∷ row "switch" (decimal ∷ decimal ∷ decimal ∷ []) (λ l s x. Run (Call (Set (Switch l s x)) Nothing))
    ∷ row "open" (decimal ∷ decimal ∷ decimal ∷ []) (λ m b p. Run (Open m b p))
    ∷ row "scene" (bytes ∷ []) (λ x y z. Run (Call (Set Scene) (Word 1)))
    ∷ row "update" (room ∷ []) (λ n y z. Run (Call Update (Room n)))
    ∷ row "reset" (room ∷ []) (λ n y z. Run (Call Reset (Room n)))
    ∷ row "power" [] (λ x y z. Run (Call PowerLost Nothing))
    ∷ row "clear" (room ∷ []) (λ n y z. Run (Clear n))
    ∷ row "feed" (bytes ∷ []) (λ x y z. Run (Feed 1))
    ∷ row "faults" (bytes ∷ room ∷ []) (λ x n z. Run (Faults 1 n))
    ∷ row "settings" [] (λ x y z. Run (Show Settings))
    ∷ row "image" [] (λ x y z. Run (Show Image))
    ∷ row "chip" [] (λ x y z. Run (Show Chip))
    ∷ row "poke" (part ∷ address ∷ byte ∷ []) (λ w a v. Run (Poke (part_at w) a v))
    ∷ row "header" (entry ∷ small ∷ []) (λ w v z. header_line (entry_at w) v)
    ∷ row "check" [] (λ x y z. Run Check)
    ∷ row "lamps" (part ∷ []) (λ w y z. Aside (Lamps (part_at w)))
    ∷ row "diff" [] (λ x y z. Aside Diff)
    ∷ row "faultmap" (bytes ∷ []) (λ x y z. Aside (FaultMap 1))
    ∷ row "echo" (on_off ∷ []) (λ w y z. Aside (Echo (eqb w 0)))
    ∷ row "list" [] (λ x y z. Aside LastList)
    ∷ row "pending" [] (λ x y z. Run Pending)
    ∷ row "panel" (place ∷ []) (λ k y z. Panel k)
    ∷ row "round" (marks ∷ decimal ∷ room ∷ []) (λ p b n. Round p b n)
    ∷ row "lock" [] (λ x y z. Run (Call Lock Nothing))
    ∷ row "marks" [] (λ x y z. Run Marks)
    ∷ []

-- the first word of each line
unfoldable pub first_words : List (List ℕ)
first_words = map (λ (r : Row). r.text) lines

-- the kinds of its other words
unfoldable pub other_kinds : List (List ℕ)
other_kinds = map (λ (r : Row). r.kinds) lines

-- "A line that is no call"
unfoldable pub no_line : Row
no_line = row "" [] (λ x y z. Run Bad)

-- row k, counted from 0
unfoldable pub line_at : ℕ → Row
line_at k = get_or lines k no_line

-- ---- how a line is judged

-- the number that a word says, where its kind is one of numbers
unfoldable pub numeral_by : Option NumberKind → List ℕ → Option ℕ
numeral_by None w = None
numeral_by (Some x) w = numeral_of x.base x.digits x.most w

-- what a word of a kind says; a byte string says 0, since its bytes are lent
unfoldable pub argument_of : ℕ → List ℕ → Option ℕ
argument_of k w =
    cond (eqb k bytes) (cond (is_bytes w) (Some 0) None)
    (cond (eqb k part) (place_of w parts)
    (cond (eqb k entry) (place_of w entries)
    (cond (eqb k on_off) (place_of w switches) (numeral_by (kind_among number_kinds k) w))))

-- what word n behind the first says; 0 where the row has none
unfoldable pub value_at : List ℕ → List ℕ → ℕ → Option ℕ
value_at ks l n = cond (ltb n (length ks)) (argument_of (get_or ks n 0) (word_at l (n + 1))) (Some 0)

-- three words, where each of them says something
unfoldable pub three_of : Option ℕ → Option ℕ → Option ℕ → Option (ℕ × ℕ × ℕ)
three_of (Some a) (Some b) (Some c) = Some (a, b, c)
three_of (Some a) (Some b) None = None
three_of (Some a) None z = None
three_of None y z = None

-- "A line that is no call": one with more or fewer words than its row, or with a word that is not of its kind, is none
unfoldable pub arguments_of : List ℕ → List ℕ → Option (ℕ × ℕ × ℕ)
arguments_of ks l = cond (eqb (word_count l) (length ks + 1)) (three_of (value_at ks l 0) (value_at ks l 1) (value_at ks l 2)) None

-- what a line of row k is
unfoldable pub call_at : ℕ → ℕ → ℕ → ℕ → Line
call_at k a b c = (line_at k).call a b c

-- a line whose first word is that of row k
unfoldable pub judged : ℕ → List ℕ → Option Line
judged k l = option_map (λ (w : ℕ × ℕ × ℕ). call_at k w.0 w.1 w.2) (arguments_of (line_at k).kinds l)

-- a line, by the row that its first word has
unfoldable pub called_by : Option ℕ → List ℕ → Option Line
called_by None l = None
called_by (Some k) l = judged k l

-- "a CR right before the LF is dropped"
unfoldable pub without_cr : List ℕ → List ℕ
without_cr l = cond (ltb 0 (length l) && eqb (get_or l (length l - 1) 0) 0x0D) (take (length l - 1) l) l

-- "A line that begins with `#`, and an empty line"
unfoldable pub is_silent : List ℕ → Bool
is_silent l = eqb (length l) 0 || eqb (get_or l 0 0) (code "#")

-- "Words are judged before the call", and a line of "more than 8,192 bytes (its LF not counted) prints `?`"
unfoldable pub table_line : List ℕ → Line
table_line l = cond (leb (length l) 8192) (unwrap_or (called_by (place_of (word_at l 0) first_words) l) (Run Bad)) (Run Bad)

-- any line; "`lamps` alone is `lamps chip`"
unfoldable pub line_of : List ℕ → Line
line_of l = cond (is_silent l) (Aside Silent) (cond (same_text l (codes "lamps")) (Aside (Lamps Chip)) (table_line l))
