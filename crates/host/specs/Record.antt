-- The record and its settings: document 01, "The record and its settings". A call's definition has two parts: its answer, and the
-- record that it returns with that answer. r is a record, h its header, l a line, s a sink, d a dot's number; `lent` is the bytes
-- of a scene. The lock is that of document 02, Q-5.
-- Assumes nothing.
use Rattle.std.specs.Prelude.{Bool, cond, not, ◌&&◌, ◌||◌, List, [], ◌∷◌, ℕ, zero, suc, ◌+◌, ◌*◌, ◌%◌, leb, eqb, length, get_or, set}
use Rattle.map.specs.Refusals.{Answer}
use Rattle.std.specs.Prelude.{Ok, Err}
use Rattle.map.specs.declared.refusals.Refusal.TheVariants.{NotWritable, ReservedBit, NoDot, Level, GroupOrState, SceneLength, Unsound, Locked, NotLockable}
use Rattle.map.specs.declared.dots.Field as fields
use Rattle.map.specs.Refusals.{answer_number, numbers_of, accepted, open_answer, opens}
use Rattle.map.specs.Map.{lines_of, columns_of, is_dot, number_in, dot_number, writable_of}
use Rattle.map.specs.Images.{ok_byte, image_ok, reset_image}
use Rattle.map.specs.Lists.{all_from}
use Rattle.dots.specs.Dots.{top_level, put_level, put_field}
use Rattle.calls.specs.declared.Setting.{Setting}
use Rattle.calls.specs.declared.Setting.TheVariants.{Register, Lamp, Group, Switch, Scene}
use Rattle.host.specs.declared.Header.{Header}
use Rattle.host.specs.declared.Record.{Record}
use Rattle.host.specs.declared.RecordRef.{RecordRef}
use Rattle.host.specs.declared.Changed.{Changed}

-- ---- The record

-- "A record holds member, bus, pins", and since Q-5 marks: its header
abbrev pub header_of : ℕ → ℕ → ℕ → ℕ → Header
header_of m b p marks = record { member = m; bus = b; pins = p; marks = marks }

-- "and two images of 908 bytes: the settings, and the chip as the host believes it."
abbrev pub record_of : Header → List ℕ → List ℕ → Record
record_of h settings image = record { header = h; settings = settings; image = image }

-- a record whose images are lent
abbrev pub record_behind : RecordRef → Record
record_behind r = record_of r.header r.settings.now r.image.now

-- ---- The lock

-- Q-5: "Our assembler trims 003h and 004h to each panel. A record gets a lock over these two": whether an address is one of them
unfoldable pub is_trim : ℕ → Bool
is_trim a = eqb a 0x003 || eqb a 0x004

-- bit 0 of the marks says whether the lock is set; there is no other mark
unfoldable pub is_locked : Header → Bool
is_locked h = eqb (h.marks % 2) 1

-- the marks of a record without the lock, and with it
abbrev pub free : ℕ
free = 0

abbrev pub locked : ℕ
locked = 1

-- a header with other marks
abbrev pub marked_as : Header → ℕ → Header
marked_as h marks = header_of h.member h.bus h.pins marks

-- whether an address is a locked one
unfoldable pub lock_keeps : Header → ℕ → Bool
lock_keeps h a = is_trim a && is_locked h

-- "differs from the settings at 003h or 004h": here the two images do not
unfoldable pub same_trims : List ℕ → List ℕ → Bool
same_trims settings image = eqb (get_or settings 0x003 0) (get_or image 0x003 0) && eqb (get_or settings 0x004 0) (get_or image 0x004 0)

-- "The test of whether an address may be written now looks at the lock": whether an Update, or a rival of it, may write an address of
-- the record's chip. "An address is writable for a member", and no locked one.
unfoldable pub may_write : Header → ℕ → Bool
may_write h a = writable_of h.member a && not (lock_keeps h a)

-- ---- Soundness

-- "a locked record whose images differ at these two is unsound", and so is one with a mark that there is not
unfoldable pub marks_ok : Record → Bool
marks_ok r = leb r.header.marks 1 && (not (is_locked r.header) || same_trims r.settings r.image)

-- "It is sound if Open takes its member, bus and pins and both images have reset values in reserved bits and outside the writable
-- addresses.", and if its marks are right. "Soundness and 4 still go by the member"
unfoldable pub sound_of : Record → Bool
sound_of r =
    opens r.header.member r.header.bus r.header.pins
    && (image_ok r.header.member r.settings && (image_ok r.header.member r.image && marks_ok r))

-- "Every call but Open .. first refuses an unsound record with 14.": Faults too, since document 02, Q-2
unfoldable pub when_sound : Record → Answer → Answer
when_sound r answer = cond (sound_of r) answer (Err Unsound)

-- ---- Open

-- "Both images start at reset values.", and nothing is locked.
unfoldable pub opened : ℕ → ℕ → ℕ → Record
opened m b p = record_of (header_of m b p free) (reset_image m) (reset_image m)

-- "A refusal returns member 0, bus 0, pins 0 opened."
unfoldable pub open_host : Answer → ℕ → ℕ → ℕ → Record
open_host answer m b p = cond (accepted answer) (opened m b p) (opened 0 0 0)

-- "Open (member, bus 0 I2C or 1 SPI, pins)."
unfoldable pub open_of : ℕ → ℕ → ℕ → Changed
open_of m b p = record {
  answer = open_answer m b p;
  numbers = numbers_of (answer_number (open_answer m b p) ∷ []);
  host = open_host (open_answer m b p) m b p;
}

-- ---- Register

-- "4: not writable, above 38Bh included. 5: a reserved bit differs from its reset value." Q-5: "17, Register on a locked address, after 4
-- and before 5"
unfoldable pub register_answer : Header → ℕ → ℕ → Answer
register_answer h a v =
    cond (writable_of h.member a)
    (cond (lock_keeps h a) (Err Locked)
    (cond (ok_byte h.member a v) (Ok tt) (Err ReservedBit)))
    (Err NotWritable)

-- ---- Lamp

-- "6: no such dot."
unfoldable pub when_dot : Header → ℕ → ℕ → Answer → Answer
when_dot h l s answer = cond (is_dot h.member l s) answer (Err NoDot)

-- "7: level above 255 when the settings' data mode is 0 or 1, above 65,535 otherwise."
unfoldable pub lamp_answer : Header → List ℕ → ℕ → ℕ → ℕ → Answer
lamp_answer h settings l s v = when_dot h l s (cond (leb v (top_level settings)) (Ok tt) (Err Level))

-- ---- Group and Switch

-- "6: no such dot. 8: group above 3, state above 1."
unfoldable pub field_answer : Header → ℕ → ℕ → ℕ → ℕ → Answer
field_answer h l s v top = when_dot h l s (cond (leb v top) (Ok tt) (Err GroupOrState))

-- ---- Scene

-- "of two bytes", "all low byte first": the number at byte i
unfoldable pub scene_word : List ℕ → ℕ → ℕ
scene_word bytes i = get_or bytes i 0 + 256 * get_or bytes (i + 1) 0

-- "a count n of two bytes"
abbrev pub scene_count : List ℕ → ℕ
scene_count bytes = scene_word bytes 0

-- "then n dot numbers of one byte": that of entry i
unfoldable pub scene_dot : List ℕ → ℕ → ℕ
scene_dot bytes i = get_or bytes (2 + i) 0

-- "then n levels of two bytes": that of entry i
unfoldable pub scene_level : List ℕ → ℕ → ℕ
scene_level bytes i = scene_word bytes (2 + scene_count bytes + 2 * i)

-- "9: length under 2 or not 2 + 3 × n."
unfoldable pub scene_sized : List ℕ → Bool
scene_sized bytes = leb 2 (length bytes) && eqb (length bytes) (2 + 3 * scene_count bytes)

-- the dot number of entry i is that of a dot of the member; else "6: no such dot"
unfoldable pub scene_has_dot : ℕ → List ℕ → ℕ → Bool
scene_has_dot m bytes i = number_in (lines_of m) (columns_of m) (scene_dot bytes i)

-- the level of entry i is not "above 255 when the settings' data mode is 0 or 1, above 65,535 otherwise"; else 7
unfoldable pub scene_fits : ℕ → List ℕ → ℕ → Bool
scene_fits top bytes i = leb (scene_level bytes i) top

-- "Then all dot numbers, 6; then all levels, 7."
unfoldable pub scene_answer : Header → List ℕ → List ℕ → Answer
scene_answer h settings bytes =
    cond (scene_sized bytes)
    (cond (all_from (scene_has_dot h.member bytes) 0 (scene_count bytes))
    (cond (all_from (scene_fits (top_level settings) bytes) 0 (scene_count bytes)) (Ok tt) (Err Level))
    (Err NoDot))
    (Err SceneLength)

-- "It acts as n Lamp calls in order": the first k of them
unfoldable pub put_scene : List ℕ → List ℕ → ℕ → List ℕ
put_scene bytes image zero = image
put_scene bytes image (suc k) = put_level (put_scene bytes image k) (scene_dot bytes k) (scene_level bytes k)

-- ---- A setting: one of these five calls

-- "A call checks in the order its refusals stand here.": what a sound record answers to it
unfoldable pub arguments_answer : Header → List ℕ → Setting → List ℕ → Answer
arguments_answer h settings (Register a v) lent = register_answer h a v
arguments_answer h settings (Lamp l s v) lent = lamp_answer h settings l s v
arguments_answer h settings (Group l s g) lent = field_answer h l s g 3
arguments_answer h settings (Switch l s x) lent = field_answer h l s x 1
arguments_answer h settings Scene lent = scene_answer h settings lent

-- "Every call but Open .. first refuses an unsound record with 14.": what any record answers
unfoldable pub setting_answer : Record → Setting → List ℕ → Answer
setting_answer r q lent = when_sound r (arguments_answer r.header r.settings q lent)

-- "this paper's number and values": a setting's are its number alone, since "a refusal .. carries only its number"
unfoldable pub setting_numbers : Record → Setting → List ℕ → List ℕ
setting_numbers r q lent = answer_number (setting_answer r q lent) ∷ []

-- "the old one changed at the named bits": the settings after it. Register: "Only that byte of the settings changes."
unfoldable pub put_setting : List ℕ → Setting → List ℕ → List ℕ
put_setting settings (Register a v) lent = set settings a v
put_setting settings (Lamp l s v) lent = put_level settings (dot_number l s) v
put_setting settings (Group l s g) lent = put_field fields.TheVariants.Group settings l s g
put_setting settings (Switch l s x) lent = put_field fields.TheVariants.Switch settings l s x
put_setting settings Scene lent = put_scene lent settings (scene_count lent)

-- "a refusal returns it unchanged": the settings become the new ones where the call is accepted, and nothing else changes
unfoldable pub changed_to : Record → Answer → List ℕ → List ℕ → Changed
changed_to r answer numbers new = record {
  answer = answer;
  numbers = numbers_of numbers;
  host = record_of r.header (cond (accepted answer) new r.settings) r.image;
}

-- "Each setting's promise equates the whole new image with the old one changed at the named bits."
unfoldable pub setting_of : Record → Setting → List ℕ → Changed
setting_of r q lent = changed_to r (setting_answer r q lent) (setting_numbers r q lent) (put_setting r.settings q lent)

-- "Register (address, one-byte value)."
abbrev pub register_of : Record → ℕ → ℕ → Changed
register_of r a v = setting_of r (Register a v) []

-- "Lamp (line, sink, level)."
abbrev pub lamp_of : Record → ℕ → ℕ → ℕ → Changed
lamp_of r l s v = setting_of r (Lamp l s v) []

-- "Group (line, sink, group)"
abbrev pub group_of : Record → ℕ → ℕ → ℕ → Changed
group_of r l s g = setting_of r (Group l s g) []

-- "Switch (line, sink, state)."
abbrev pub switch_of : Record → ℕ → ℕ → ℕ → Changed
switch_of r l s x = setting_of r (Switch l s x) []

-- "Scene (bytes)"
abbrev pub scene_of : Record → List ℕ → Changed
scene_of r bytes = setting_of r Scene bytes

-- ---- Power lost

-- "Every call but Open .. first refuses an unsound record with 14": Power lost refuses nothing else
unfoldable pub sound_answer : Record → Answer
sound_answer r = when_sound r (Ok tt)

-- "the chip image has reset values and the settings are kept". Q-5: "Reset and Power lost release it": the record after either, where it is
-- accepted
abbrev pub chip_reset : Record → Record
chip_reset r = record_of (marked_as r.header free) r.settings (reset_image r.header.member)

-- "Power lost: no bytes."
unfoldable pub power_lost_of : Record → Changed
power_lost_of r = record {
  answer = sound_answer r;
  numbers = numbers_of (answer_number (sound_answer r) ∷ []);
  host = cond (accepted (sound_answer r)) (chip_reset r) r;
}

-- ---- Lock

-- "Settings or chip are on when bit 0 of 000h in their image is 1."
unfoldable pub is_on : List ℕ → Bool
is_on image = eqb (get_or image 0x000 0 % 2) 1

-- Q-5: "locking a locked record, or one whose chip image is off or differs from the settings at 003h or 004h": this one is none of these
unfoldable pub is_lockable : Record → Bool
is_lockable r = not (is_locked r.header) && (is_on r.image && same_trims r.settings r.image)

-- "Answers: .. 18"
unfoldable pub lock_answer : Record → Answer
lock_answer r = when_sound r (cond (is_lockable r) (Ok tt) (Err NotLockable))

-- "A record gets a lock .., set by a call of its own, once until it is released": only the mark changes
unfoldable pub lock_of : Record → Changed
lock_of r = record {
  answer = lock_answer r;
  numbers = numbers_of (answer_number (lock_answer r) ∷ []);
  host = cond (accepted (lock_answer r)) (record_of (marked_as r.header locked) r.settings r.image) r;
}
