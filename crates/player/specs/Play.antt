-- A line of a script, played: what it does to the player, and what it prints. p is a player, l a line, 0Ah is LF, 3Fh `?`.
-- Assumes nothing.
use Rattle.std.specs.Prelude.{Bool, true, false, cond, not, ◌&&◌, List, [], ◌∷◌, ◌++◌, Option, Some, None, Ok, Err, ℕ, ◌+◌, ◌*◌, ltb, leb, eqb, min, get_or, length, take, replicate}
use Rattle.map.specs.declared.refusals.Numbers as numbers
use Rattle.map.specs.Refusals.{refusal_number}
use Rattle.faults.specs.Faults.{Answer, faults_answer, faults_result}
use Rattle.host.specs.declared.Record.{Record}
use Rattle.history.specs.declared.World.{World}
use Rattle.history.specs.declared.Ledger.{Ledger}
use Rattle.text.specs.Text.{placed, place_after, decimal_text}
use Rattle.script.specs.declared.command.Command.{Command}
use Rattle.script.specs.declared.command.Command.TheVariants as commands
use Rattle.script.specs.declared.command.Lent as lents
use Rattle.script.specs.declared.command.Lent.TheVariants.{Nothing, Word, Room}
use Rattle.script.specs.declared.command.Part.{Part}
use Rattle.script.specs.declared.command.Part.TheVariants.{Settings, Image, Chip}
use Rattle.script.specs.declared.command.Aside as asides
use Rattle.script.specs.declared.command.Aside.TheVariants.{Silent, Echo, Lamps, FaultMap, Diff, List as LastList}
use Rattle.script.specs.declared.command.Line.{Line}
use Rattle.script.specs.declared.command.Line.TheVariants.{Run, Aside, Panel, Round}
use Rattle.script.specs.Words.{word_at}
use Rattle.script.specs.Bytes.{bytes_of}
use Rattle.script.specs.Lines.{without_cr, is_silent, line_of}
use Rattle.replies.specs.declared.Reply.{Reply}
use Rattle.replies.specs.declared.Reply.TheVariants.{Bad, Numbers, Lent, Bytes, Same, Differs, Free, Locked}
use Rattle.replies.specs.Replies.{reply_line, echo_line}
use Rattle.listing.specs.Show.{list_text}
use Rattle.pictures.specs.Pictures.{lamps_text, faults_text, differences_text}
use Rattle.session.specs.declared.Session.{Session}
use Rattle.session.specs.Run.{Effect, effect_of}
use Rattle.booth.specs.declared.Booth.{Booth}
use Rattle.booth.specs.declared.BoothRounded.{BoothRounded}
use Rattle.booth.specs.Booth.{fresh_booth, current_of, with_current, selected, rounded_booth, round_lent}
use Rattle.player.specs.declared.Player.{Player}
use Rattle.player.specs.declared.Written.{Written}

-- ---- The player

-- four panels that are "all at first those of `open 0 0 0`"; no line yet, no echo, and no list
unfoldable pub fresh : Player
fresh = record { booth = fresh_booth; echo = false; lines = 0; last = None }

-- other panels, and nothing else of the player changes
unfoldable pub with_booth : Player → Booth → Player
with_booth p b = record p { booth = b }

-- the session of "the one that all other lines are about"
unfoldable pub session_of : Player → Session
session_of p = current_of p.booth

-- a call changes that one, and nothing else of the player
unfoldable pub with_session : Player → Session → Player
with_session p s = with_booth p (with_current p.booth s)

-- "the line's number", counted from 1, up to 4,294,967,295
unfoldable pub counted_from : ℕ → ℕ
counted_from n = cond (ltb n 4294967295) (n + 1) 4294967295

-- "Every line of the script counts"
unfoldable pub counted : Player → Player
counted p = record p { lines = counted_from p.lines }

-- ---- A command

-- "A buffer of L bytes (L at most 8,192, else `?`) is lent filled with A5h": it is the first L bytes of this
unfoldable pub fresh_buffer : List ℕ
fresh_buffer = replicate 8192 0xA5

-- what it does to the session
unfoldable pub effect : Player → Command → List ℕ → Effect
effect p c l = effect_of (session_of p) c l fresh_buffer

-- the line that it prints: its reply, "and after the call ALL its L bytes are printed"
unfoldable pub command_line : Player → Command → List ℕ → List ℕ
command_line p c l = reply_line (effect p c l).reply (effect p c l).shown

-- whether a buffer is lent
unfoldable pub is_room : lents.Lent → Bool
is_room Nothing = false
is_room (Word k) = false
is_room (Room n) = true

-- "The last list is that of the last accepted `update`, `reset` or `clear`": the calls that are lent a buffer, and Clear
unfoldable pub writes_list : Command → Bool
writes_list commands.Bad = false
writes_list (commands.Open m b p) = false
writes_list (commands.Call q lent) = is_room lent
writes_list (commands.Clear n) = true
writes_list (commands.Feed k) = false
writes_list (commands.Faults k n) = false
writes_list (commands.Show part) = false
writes_list (commands.Poke part a v) = false
writes_list (commands.Header e v) = false
writes_list commands.Check = false
writes_list commands.Pending = false
writes_list commands.Marks = false

-- the list that an answer of 0, n and t tells of has 4 + 2n + t bytes; n and t have two bytes each
unfoldable pub size_by : numbers.Numbers → Option ℕ
size_by x =
    let n = get_or x.values 1 0 in
    let t = get_or x.values 2 0 in
    cond (eqb (get_or x.values 0 0) 0 && (ltb n 65536 && ltb t 65536)) (Some (4 + 2 * n + t)) None

-- the length of the list that a reply tells of, where it tells of one
unfoldable pub listed_size : Reply → Option ℕ
listed_size Bad = None
listed_size (Numbers n) = None
listed_size (Lent n) = size_by n
listed_size Bytes = None
listed_size Same = None
listed_size (Differs a) = None
listed_size Free = None
listed_size Locked = None

-- "A refused call, `feed`, `faults`, `power` and `open` leave it as it is": the length of the list to keep, where there is one
unfoldable pub kept_size : Command → Reply → Option ℕ
kept_size c r = cond (writes_list c) (listed_size r) None

-- a list and the bus that its heads are for, in 4,684 bytes
unfoldable pub written : List ℕ → ℕ → Written
written list bus = record { bytes = placed (replicate 4684 0) 0 list; length = place_after 4684 0 list; bus = bus }

-- "the last list that a call wrote": the first k bytes of what it shows
unfoldable pub keeping : Player → Option ℕ → List ℕ → ℕ → Player
keeping p None shown bus = p
keeping p (Some k) shown bus = cond (leb k (length shown)) (record p { last = Some (written (take k shown) bus) }) p

-- the player after a command that has this effect: the session that it leaves, and the list that it wrote, with "the record's own bus"
unfoldable pub after_effect : Player → Command → Effect → Player
after_effect p c e = keeping (with_session p e.session) (kept_size c e.reply) e.shown e.session.world.host.header.bus

unfoldable pub after_command : Player → Command → List ℕ → Player
after_command p c l = after_effect p c (effect p c l)

-- ---- Asides

-- "`lamps` draws the panel as the chip has it", "`lamps settings` the same of the settings"
unfoldable pub lamps_of : World → Part → List ℕ
lamps_of w Settings = lamps_text w.host.header.member w.host.settings
lamps_of w Image = lamps_text w.host.header.member w.host.image
lamps_of w Chip = lamps_text w.chip.member w.chip.registers

-- Faults of the record r with these bytes, and room for 198 readings
unfoldable pub readings_answer : Record → List ℕ → Answer
readings_answer r bytes = faults_answer r bytes (replicate 198 0)

-- "`faultmap BYTES` draws the readings of Faults the same way", or prints the number of its refusal
unfoldable pub fault_map_by : ℕ → Answer → List ℕ → List ℕ
fault_map_by m (Ok g) readings = faults_text m readings
fault_map_by m (Err r) readings = decimal_text (refusal_number r)

-- of the record's 198 readings with these bytes
unfoldable pub fault_map_text : Record → List ℕ → List ℕ
fault_map_text r bytes = fault_map_by r.header.member (readings_answer r bytes) (faults_result r bytes (replicate 198 0))

-- "`diff` lists every writable register in which the chip and the ledger differ", and prints `?` where the ledger is void
unfoldable pub differences_by : List ℕ → Option Ledger → List ℕ
differences_by registers (Some g) = differences_text g.member registers g.bytes
differences_by registers None = 0x3F ∷ []

unfoldable pub differences_of : Session → List ℕ
differences_of s = differences_by s.world.chip.registers s.ledger

-- "`list` .. shows the last list that a call wrote in showlist's form, on one line with ` / ` between transactions", and `?` before the first
unfoldable pub last_list_text : Option Written → List ℕ
last_list_text None = 0x3F ∷ []
last_list_text (Some w) = list_text w.bus (take (min w.length 4684) w.bytes)

-- a line that prints `0`
abbrev pub zero_line : List ℕ
zero_line = 0x30 ∷ 0x0A ∷ []

-- what an aside prints: "do nothing and print nothing"; `0` for `echo`
unfoldable pub aside_line : Player → asides.Aside → List ℕ → List ℕ
aside_line p Silent l = []
aside_line p (Echo on) l = zero_line
aside_line p (Lamps part) l = lamps_of (session_of p).world part ++ (0x0A ∷ [])
aside_line p (FaultMap k) l = fault_map_text (session_of p).world.host (bytes_of (word_at l k)) ++ (0x0A ∷ [])
aside_line p Diff l = differences_of (session_of p) ++ (0x0A ∷ [])
aside_line p LastList l = last_list_text p.last ++ (0x0A ∷ [])

-- "`echo on` .., `echo off` ends that"
unfoldable pub with_echo : Player → Bool → Player
with_echo p on = record p { echo = on }

-- "lines for people, which change neither the record nor the chip": `echo` alone changes the player
unfoldable pub after_aside : Player → asides.Aside → Player
after_aside p Silent = p
after_aside p (Echo on) = with_echo p on
after_aside p (Lamps part) = p
after_aside p (FaultMap k) = p
after_aside p Diff = p
after_aside p LastList = p

-- ---- Lines about the four panels

-- "`panel K` .. makes K the one that all other lines are about"; "it prints `0`"
unfoldable pub after_panel : Player → ℕ → Player
after_panel p k = with_booth p (selected p.booth k)

-- "Round of the four records, with a buffer of L bytes": with the marks m and B, and n bytes lent
unfoldable pub rounded : Player → ℕ → ℕ → ℕ → BoothRounded
rounded p m limit n = rounded_booth p.booth m limit (take n fresh_buffer)

-- the buffer after it
unfoldable pub round_shown : Player → ℕ → ℕ → ℕ → List ℕ
round_shown p m limit n = round_lent p.booth m limit (take n fresh_buffer)

-- "`0 n t BUFFER`, or `N BUFFER`"
unfoldable pub round_line : Player → ℕ → ℕ → ℕ → List ℕ
round_line p m limit n = reply_line (Lent (rounded p m limit n).numbers) (round_shown p m limit n)

-- the panels that it leaves, and its list as the last one, whose heads are read "by bus 0"
unfoldable pub after_round : Player → ℕ → ℕ → ℕ → Player
after_round p m limit n = keeping (with_booth p (rounded p m limit n).booth) (size_by (rounded p m limit n).numbers) (round_shown p m limit n) 0

-- ---- A line

-- "`echo on` puts the line's number and the call before its answer": the first 8,192 bytes of the line; nothing of a comment or an empty line
unfoldable pub echo_text : Bool → ℕ → List ℕ → List ℕ
echo_text on n l = cond (not (is_silent l) && on) (echo_line n (take 8192 l)) []

-- a command and a round print their reply, an aside what it shows, `panel` prints `0`
unfoldable pub line_text_by : Player → Line → List ℕ → List ℕ
line_text_by p (Run c) l = command_line p c l
line_text_by p (Aside x) l = aside_line p x l
line_text_by p (Panel k) l = zero_line
line_text_by p (Round m limit n) l = round_line p m limit n

-- what a line prints that was counted
unfoldable pub line_text : Player → List ℕ → List ℕ
line_text p l = line_text_by p (line_of l) l

-- what each leaves
unfoldable pub after_by : Player → Line → List ℕ → Player
after_by p (Run c) l = after_command p c l
after_by p (Aside x) l = after_aside p x
after_by p (Panel k) l = after_panel p k
after_by p (Round m limit n) l = after_round p m limit n

-- the player after a line that was counted
unfoldable pub after_line : Player → List ℕ → Player
after_line p l = after_by p (line_of l) l

-- the player after any line: it is counted, and "a CR right before the LF is dropped"
unfoldable pub player_after : Player → List ℕ → Player
player_after p l = after_line (counted p) (without_cr l)

-- what a line prints that was counted: its echo, then its own
unfoldable pub echoed_text : Player → List ℕ → List ℕ
echoed_text p l = echo_text p.echo p.lines l ++ line_text p l

-- what any line prints
unfoldable pub printed : Player → List ℕ → List ℕ
printed p l = echoed_text (counted p) (without_cr l)

-- no line prints more bytes of its own, its LFs counted (PlayLaws): `0 n t stored BUFFER` of an update with three digits for each, and
-- 8,192 bytes
abbrev pub longest_text : ℕ
longest_text = 16399

-- nor with an echo before it, of ten digits, a space, 8,192 bytes and LF
abbrev pub longest_line : ℕ
longest_line = 24603
