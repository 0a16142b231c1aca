-- A line of a script, and all that it does: the table's middle column. s is the session, that is the record and the chip that the
-- script plays on with their ledger; l the line, b the buffer, of which the first n bytes are lent.
-- Assumes nothing.
use Rattle.std.specs.Prelude.{◌≡◌, Bool, true, false, cond, not, ◌&&◌, List, [], ◌∷◌, Option, Some, None, Ok, ℕ, zero, suc, ◌^◌, ◌≤◌, ◌<◌, eqb, length, get_or, take, set}
use Rattle.std.specs.List.{All}
use Rattle.map.specs.Map.{writable_of}
use Rattle.map.specs.declared.refusals.Numbers as numbers
use Rattle.map.specs.declared.refusals.Refusal.TheVariants.{Unsound}
use Rattle.map.specs.Refusals.{Answer, refusal_number, answer_number, numbers_of, open_answer, opens}
use Rattle.burst.specs.Burst.{bus_bytes}
use Rattle.calls.specs.declared.Request.{Request}
use Rattle.host.specs.declared.Header.{Header}
use Rattle.host.specs.declared.Record.{Record}
use Rattle.host.specs.Record.{header_of, record_of, is_locked, marked_as, sound_of}
use Rattle.update.specs.Update.{writes_of}
use Rattle.chip.specs.declared.Chip as chips
use Rattle.chip.specs.Chip.{chip_of, feed_of}
use Rattle.faults.specs.Faults.{answer_numbers, faults_answer, faults_result}
use Rattle.history.specs.declared.World.{World}
use Rattle.history.specs.Step.{Step, call_numbers, answers_locked, step_of, clear_step}
use Rattle.history.specs.declared.Ledger.{Ledger}
use Rattle.history.specs.Ledger.{Told, told_of, opened_ledger, entered_of}
use Rattle.history.specs.History.{start}
use Rattle.script.specs.declared.command.Command.{Command}
use Rattle.script.specs.declared.command.Command.TheVariants as commands
use Rattle.script.specs.declared.command.Lent as lents
use Rattle.script.specs.declared.command.Lent.TheVariants.{Nothing, Word, Room}
use Rattle.script.specs.declared.command.Part.{Part}
use Rattle.script.specs.declared.command.Part.TheVariants.{Settings, Image, Chip}
use Rattle.script.specs.declared.command.Entry.{Entry}
use Rattle.script.specs.declared.command.Entry.TheVariants.{Member, Bus, Pins, Lock as LockMark}
use Rattle.script.specs.Words.{word_at}
use Rattle.script.specs.Bytes.{bytes_of}
use Rattle.replies.specs.declared.Reply.{Reply}
use Rattle.replies.specs.declared.Reply.TheVariants.{Bad, Numbers, Lent, Bytes, Same, Differs, Free, Locked}
use Rattle.session.specs.declared.Session.{Session}
use Rattle.session.specs.declared.outcomes.Outcome.{Outcome}

-- ---- What a line does

-- Its reply, the bytes of the buffer that it shows, and the session after it.
pub record Effect : Type 0 where
  pub reply : Reply
  pub shown : List ℕ
  pub session : Session

-- what the program gives back of a line, with the buffer as it then is
abbrev pub showing : Outcome → List ℕ → Effect
showing x buffer = record { reply = x.reply; shown = take x.shown buffer; session = x.session }

-- a reply that has no numbers
unfoldable pub Plain : Reply → Type 0
Plain Bad = 0 ≤ 0
Plain (Numbers n) = 1 ≤ 0
Plain (Lent n) = 1 ≤ 0
Plain Bytes = 0 ≤ 0
Plain Same = 0 ≤ 0
Plain (Differs a) = 0 ≤ 0
Plain Free = 0 ≤ 0
Plain Locked = 0 ≤ 0

-- a number without a buffer is a machine's word
unfoldable pub Words : Reply → Type 0
Words Bad = 0 ≤ 0
Words (Numbers n) = (length n.values ≡ 5) × All (λ v. v < 2 ^ 64) n.values
Words (Lent n) = 0 ≤ 0
Words Bytes = 0 ≤ 0
Words Same = 0 ≤ 0
Words (Differs a) = 0 ≤ 0
Words Free = 0 ≤ 0
Words Locked = 0 ≤ 0

-- it is this effect, and the buffer has all that is shown
pub record Does (x : Outcome) (buffer : List ℕ) (e : Effect) : Type 0 where
  pub is : showing x buffer ≡ e
  pub within : x.shown ≤ length buffer
  pub words : Words x.reply

-- a reply alone
unfoldable pub alone : Reply → Session → Effect
alone reply s = record { reply = reply; shown = []; session = s }

-- the numbers of an answer; "A buffer of L bytes .. is lent .., and after the call ALL its L bytes are printed"
unfoldable pub answered : lents.Lent → numbers.Numbers → List ℕ → Session → Effect
answered Nothing n lent s = alone (Numbers n) s
answered (Word k) n lent s = alone (Numbers n) s
answered (Room k) n lent s = record { reply = Lent n; shown = lent; session = s }

-- "`0` or number"
unfoldable pub numbered : Answer → Session → Effect
numbered answer s = alone (Numbers (numbers_of (answer_number answer ∷ []))) s

-- ---- `open`

-- "the host record is the new one and the chip model is at reset values of that member, bus, pins"
unfoldable pub opened_session : ℕ → ℕ → ℕ → Session
opened_session m bus p = record { world = start m bus p; ledger = Some (opened_ledger m) }

-- "on acceptance .. a refusal leaves the script's record and chip as they were"
unfoldable pub open_effect : Session → ℕ → ℕ → ℕ → Effect
open_effect s m bus p = numbered (open_answer m bus p) (cond (opens m bus p) (opened_session m bus p) s)

-- ---- Calls on the record, whose lists are fed at once

-- "It runs the real calls on host records and chip models": both are the call's, the ledger stays
unfoldable pub with_world : Session → World → Session
with_world s w = record { world = w; ledger = s.ledger }

-- any call: what it answers, and the record and the chip after it. "An Update, Reset or Clear prints its own answer"
unfoldable pub step_effect : Session → lents.Lent → Step → Effect
step_effect s lent x = answered lent (call_numbers x.answer) x.lent (with_world s x.world)

-- a void ledger stays void
abbrev pub enters : Told → Option Ledger → Option Ledger
enters x (Some g) = Some (entered_of g x)
enters x None = None

-- "the ledger of the accepted settings" is told of a call of the list of demand 3, and Q-5: it "is told of each 17, of no other answer"
unfoldable pub told : Session → Request → List ℕ → Bool → Session
told s q bytes locked = record { world = s.world; ledger = enters (told_of q bytes locked) s.ledger }

-- what is lent to it: nothing, the bytes of a word, or a buffer of so many
unfoldable pub lent_of : lents.Lent → List ℕ → List ℕ → List ℕ
lent_of Nothing l b = []
lent_of (Word n) l b = bytes_of (word_at l n)
lent_of (Room n) l b = take n b

-- such a call on the bytes that are lent
unfoldable pub call_effect : Session → Request → lents.Lent → List ℕ → Effect
call_effect s q lent bytes =
    let x : Step = step_of s.world q bytes in
    step_effect (told s q bytes (answers_locked x.answer)) lent x

-- ---- `feed`, `faults`

-- "the bytes are fed to the chip model only": "`0` or `11` or `14`"
unfoldable pub feed_effect : Session → List ℕ → Effect
feed_effect s bytes =
    numbered (feed_of s.world.chip bytes).answer
    (with_world s (record { host = s.world.host; chip = (feed_of s.world.chip bytes).chip }))

-- "input bytes, result buffer of L bytes": Faults of the script's record, which it only reads
unfoldable pub faults_effect : Session → List ℕ → List ℕ → Effect
faults_effect s bytes result = record {
  reply = Lent (numbers_of (answer_numbers (faults_answer s.world.host bytes result)));
  shown = faults_result s.world.host bytes result;
  session = s;
}

-- ---- `settings`, `image`, `chip`

-- "the 908 bytes of the settings, of the chip image, of the chip model"
unfoldable pub part_bytes : World → Part → List ℕ
part_bytes w Settings = w.host.settings
part_bytes w Image = w.host.image
part_bytes w Chip = w.chip.registers

-- "1,816 hex digits"
unfoldable pub shown_bytes : Session → List ℕ → Effect
shown_bytes s bytes = record { reply = Bytes; shown = bytes; session = s }

-- ---- `poke`, `header`: "behind the calls' back"

-- "puts V at address A" of the settings, of the image or of the chip
unfoldable pub poked : World → Part → ℕ → ℕ → World
poked w Settings a v = record { host = record_of w.host.header (set w.host.settings a v) w.host.image; chip = w.chip }
poked w Image a v = record { host = record_of w.host.header w.host.settings (set w.host.image a v); chip = w.chip }
poked w Chip a v = record { host = w.host; chip = chip_of w.chip.member w.chip.bus w.chip.pins (set w.chip.registers a v) }

-- "puts V (decimal, at most 255, else `?`) into the record"; of `lock` V is the mark
unfoldable pub header_with : Header → Entry → ℕ → Header
header_with h Member v = header_of v h.bus h.pins h.marks
header_with h Bus v = header_of h.member v h.pins h.marks
header_with h Pins v = header_of h.member h.bus v h.marks
header_with h LockMark v = marked_as h v

-- "and into the chip"; a lock's V goes "into the record only"
unfoldable pub chip_with : chips.Chip → Entry → ℕ → chips.Chip
chip_with c Member v = chip_of v c.bus c.pins c.registers
chip_with c Bus v = chip_of c.member v c.pins c.registers
chip_with c Pins v = chip_of c.member c.bus v c.registers
chip_with c LockMark v = c

unfoldable pub with_entry : World → Entry → ℕ → World
with_entry w e v = record { host = record_of (header_with w.host.header e v) w.host.settings w.host.image; chip = chip_with w.chip e v }

-- "`poke` and `header` void the ledger"
unfoldable pub behind_back : World → Effect
behind_back w = numbered (Ok tt) (record { world = w; ledger = None })

-- ---- `check`

-- "compares every writable register of the chip model with the ledger": whether the byte that the chip holds is another than the ledger's, of
-- a register that the ledger's member m can write
unfoldable pub chip_differs : ℕ → ℕ → ℕ → ℕ → Bool
chip_differs m a held asked = not (eqb held asked) && writable_of m a

-- "`same`, or `differs A` with the lowest differing address", among the n addresses from a on
unfoldable pub compare_from : ℕ → List ℕ → List ℕ → ℕ → ℕ → Reply
compare_from m registers ledger a zero = Same
compare_from m registers ledger a (suc n) =
    elim (chip_differs m a (get_or registers a 0) (get_or ledger a 0)) [ true ↦ Differs a | false ↦ compare_from m registers ledger (suc a) n ]

-- "`check` then prints `?` until the next accepted `open`"
abbrev pub compare : List ℕ → Option Ledger → Reply
compare registers (Some g) = compare_from g.member registers g.bytes 0 908
compare registers None = Bad

unfoldable pub compared : Session → Reply
compared s = compare s.world.chip.registers s.ledger

-- ---- `pending`

-- "n and t of the list that Update would write now", or the number of its refusal
unfoldable pub pending_numbers : Record → List ℕ
pending_numbers r = cond (sound_of r) (length (writes_of r) ∷ bus_bytes (writes_of r) ∷ []) (refusal_number Unsound ∷ [])

-- "`n t` (`0 0` when there is none), or `14`"; nothing is sent
unfoldable pub pending_effect : Session → Effect
pending_effect s = alone (Numbers (numbers_of (pending_numbers s.world.host))) s

-- ---- `marks`

-- "`free` or `locked`"
unfoldable pub marks_reply : Header → Reply
marks_reply h = cond (is_locked h) Locked Free

-- ---- A line

-- the table's middle column, a line of it each
unfoldable pub effect_of : Session → Command → List ℕ → List ℕ → Effect
effect_of s commands.Bad l b = alone Bad s
effect_of s (commands.Open m bus p) l b = open_effect s m bus p
effect_of s (commands.Call q lent) l b = call_effect s q lent (lent_of lent l b)
effect_of s (commands.Clear n) l b = step_effect s (Room n) (clear_step s.world (take n b))
effect_of s (commands.Feed k) l b = feed_effect s (bytes_of (word_at l k))
effect_of s (commands.Faults k n) l b = faults_effect s (bytes_of (word_at l k)) (take n b)
effect_of s (commands.Show p) l b = shown_bytes s (part_bytes s.world p)
effect_of s (commands.Poke p a v) l b = behind_back (poked s.world p a v)
effect_of s (commands.Header e v) l b = behind_back (with_entry s.world e v)
effect_of s commands.Check l b = alone (compared s) s
effect_of s commands.Pending l b = pending_effect s
effect_of s commands.Marks l b = alone (marks_reply s.world.host.header) s
