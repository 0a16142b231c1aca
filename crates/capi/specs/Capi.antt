-- The C interface, include/lp586x.h: records and chips as the caller's bytes, and what a call answers and leaves in the memory that
-- it was lent. The sentences are the header's. r is a record, c a chip, x what a call on values gives back.
-- Assumes nothing.
use Rattle.std.specs.Prelude.{Result, Ok, Err, Bool, cond, ◌&&◌, List, [], ◌∷◌, ◌++◌, ℕ, zero, suc, ◌+◌, ◌*◌, ◌<◌, ◌^◌, leb, eqb, length, get_or, take, drop}
use Rattle.map.specs.declared.refusals.Refusal.TheVariants.{BufferShort, ListSizes, Unsound, NoTransaction}
use Rattle.map.specs.declared.refusals.Numbers.{Numbers}
use Rattle.map.specs.Refusals.{Answer, refusal_number, answer_number, numbers_of, accepted}
use Rattle.burst.specs.declared.places.Place.{Place}
use Rattle.burst.specs.declared.places.PlaceError.{PlaceError}
use Rattle.burst.specs.declared.places.PlaceError.TheVariants.{BadSizes, NoIndex}
use Rattle.host.specs.declared.Record.{Record}
use Rattle.host.specs.declared.Changed.{Changed}
use Rattle.host.specs.declared.Header.{Header}
use Rattle.host.specs.Record.{header_of, record_of}
use Rattle.update.specs.declared.NotListed.TheVariants.{Short, Refused}
use Rattle.update.specs.declared.Sent.{Sent}
use Rattle.update.specs.Update.{ListAnswer, refused, list_numbers, update_numbers, list_number, is_listed}
use Rattle.rounds.specs.declared.Rounded.{Rounded}
use Rattle.rounds.specs.Round.{present_at, record_at}
use Rattle.faults.specs.Faults as faults
use Rattle.faults.specs.Faults.{answer_numbers}
use Rattle.chip.specs.declared.Chip.{Chip}
use Rattle.chip.specs.Chip.{chip_of}

-- ---- Records and chips as bytes

-- "Bytes of a record: member, bus, pins, marks,"
unfoldable pub header_in : List ℕ → Header
header_in bytes = header_of (get_or bytes 0 0) (get_or bytes 1 0) (get_or bytes 2 0) (get_or bytes 3 0)

-- where the marks stand
abbrev pub marks_at : ℕ
marks_at = 3

-- "908 settings,": where they begin, behind these four
abbrev pub settings_at : ℕ
settings_at = 4

abbrev pub settings_in : List ℕ → List ℕ
settings_in bytes = take 908 (drop settings_at bytes)

-- "908 of the chip as the host believes it": where they begin
abbrev pub image_at : ℕ
image_at = 912

abbrev pub image_in : List ℕ → List ℕ
image_in bytes = take 908 (drop image_at bytes)

-- the record that the bytes hold
unfoldable pub record_in : List ℕ → Record
record_in bytes = record_of (header_in bytes) (settings_in bytes) (image_in bytes)

-- the bytes of a header, in the same order
abbrev pub header_bytes : Header → List ℕ
header_bytes h = h.member ∷ h.bus ∷ h.pins ∷ h.marks ∷ []

-- and those of a record
unfoldable pub record_bytes : Record → List ℕ
record_bytes r = header_bytes r.header ++ (r.settings ++ r.image)

-- another image in the place of the one that begins at `at`
abbrev pub put_image : List ℕ → ℕ → List ℕ → List ℕ
put_image bytes at image = take at bytes ++ (image ++ drop (at + 908) bytes)

-- "Of a chip: member, bus, pins, 908 registers.": where these begin
abbrev pub registers_at : ℕ
registers_at = 3

unfoldable pub chip_in : List ℕ → Chip
chip_in bytes = chip_of (get_or bytes 0 0) (get_or bytes 1 0) (get_or bytes 2 0) (take 908 (drop registers_at bytes))

-- the bytes of a chip, in the same order
unfoldable pub chip_bytes : Chip → List ℕ
chip_bytes c = c.member ∷ c.bus ∷ c.pins ∷ c.registers

-- "A record is LP586X_RECORD_SIZE bytes in the caller's memory,"
abbrev pub record_size : ℕ
record_size = 1820

unfoldable pub record_sized : List ℕ → Bool
record_sized bytes = eqb (length bytes) record_size

-- "a chip of the model LP586X_CHIP_SIZE"
abbrev pub chip_size : ℕ
chip_size = 911

unfoldable pub chip_sized : List ℕ → Bool
chip_sized bytes = eqb (length bytes) chip_size

-- ---- Four records

-- "The records stand back to back, the one at place k for the chip with pins k.": where it begins
abbrev pub place_at : ℕ → ℕ
place_at k = record_size * k

-- the record there
abbrev pub record_from : List ℕ → ℕ → Record
record_from bytes k = record_in (drop (place_at k) bytes)

-- the records that the bytes hold
abbrev pub records_in : List ℕ → List Record
records_in bytes = record_from bytes 0 ∷ record_from bytes 1 ∷ record_from bytes 2 ∷ record_from bytes 3 ∷ []

-- the bytes of four records, one behind the other
abbrev pub records_bytes : List Record → List ℕ
records_bytes r = record_bytes (record_at r 0) ++ (record_bytes (record_at r 1) ++ (record_bytes (record_at r 2) ++ record_bytes (record_at r 3)))

-- an image at `at`, where the record there is present
abbrev pub kept_at : Bool → List ℕ → ℕ → List ℕ → List ℕ
kept_at present bytes at image = cond present (put_image bytes at image) bytes

-- the images of the first places, each in its own record
unfoldable pub kept_to : ℕ → List Bool → List ℕ → List (List ℕ) → List ℕ
kept_to zero present bytes images = bytes
kept_to (suc k) present bytes images = kept_at (present_at present k) (kept_to k present bytes images) (place_at k + image_at) (get_or images k [])

-- neither of "records_size, or present above 15": four records, and no mark beyond them
unfoldable pub round_sized : List ℕ → ℕ → Bool
round_sized bytes present = eqb (length bytes) (place_at 4) && leb present 15

-- ---- Calls that answer a number alone

-- "14 unsound record or chip, or its size is wrong"
unfoldable pub when_sized : Bool → Answer → Answer
when_sized sized answer = cond sized answer (Err Unsound)

-- what such a call answers, and the bytes of the record or chip as it leaves them
pub record Outcome : Type 0 where
  pub answer : ℕ
  pub bytes : List ℕ

-- "Every call answers 0 where it was accepted, or the number of its refusal"
unfoldable pub setting_number : List ℕ → Changed → ℕ
setting_number bytes x = answer_number (when_sized (record_sized bytes) x.answer)

-- "A refused call changes no byte that was lent to it": the bytes of the record that an accepted call gives back, else the old ones
unfoldable pub setting_bytes : List ℕ → Changed → List ℕ
setting_bytes bytes x = cond (accepted (when_sized (record_sized bytes) x.answer)) (record_bytes x.host) bytes

-- a setting's outcome
abbrev pub setting_outcome : List ℕ → Changed → Outcome
setting_outcome bytes x = record { answer = setting_number bytes x; bytes = setting_bytes bytes x }

-- "Every call answers 0 where it was accepted, or the number of its refusal": its number and values, 14 alone where the size is wrong
unfoldable pub sized_numbers : List ℕ → Changed → Numbers
sized_numbers bytes x = cond (record_sized bytes) x.numbers (numbers_of (refusal_number Unsound ∷ []))

-- the same number of a call on a chip
unfoldable pub chip_number : List ℕ → Answer → ℕ
chip_number bytes answer = answer_number (when_sized (chip_sized bytes) answer)

-- the same bytes of a chip
unfoldable pub chip_after : List ℕ → Answer → Chip → List ℕ
chip_after bytes answer c = cond (accepted (when_sized (chip_sized bytes) answer)) (chip_bytes c) bytes

-- its outcome
abbrev pub chip_outcome : List ℕ → Answer → Chip → Outcome
chip_outcome bytes answer c = record { answer = chip_number bytes answer; bytes = chip_after bytes answer c }

-- ---- Calls that write a list

-- "14 unsound record or chip, or its size is wrong", as the answer of a list
unfoldable pub list_answer : List ℕ → Sent → ListAnswer
list_answer bytes x = cond (record_sized bytes) x.answer (refused Unsound)

-- "A refused call changes no byte that was lent to it": the record's bytes after a list, or the old ones
unfoldable pub list_bytes : List ℕ → Sent → List ℕ
list_bytes bytes x = cond (is_listed (list_answer bytes x)) (record_bytes x.host) bytes

-- the buffer as the call on the record leaves it, or as it was where the size is wrong
unfoldable pub buffer_after : List ℕ → List ℕ → List ℕ → List ℕ
buffer_after bytes new old = cond (record_sized bytes) new old

-- Of an answer with these numbers: one of this number stores the value at this place; any other leaves what stood there, as does a Reset's
-- 10, which carries only its number.
unfoldable pub value_after : ℕ → ℕ → List ℕ → ℕ → ℕ
value_after number place numbers old = cond (eqb (get_or numbers 0 0) number) (get_or numbers place old) old

-- "0 stores n and t": n
abbrev pub n_after : ListAnswer → ℕ → ℕ
n_after answer old = value_after 0 1 (list_numbers answer) old

-- "0 stores n and t": t
abbrev pub t_after : ListAnswer → ℕ → ℕ
t_after answer old = value_after 0 2 (list_numbers answer) old

-- "0 stores n, t and stored": stored, of an update that stored `count` bytes
abbrev pub stored_after : ListAnswer → ℕ → ℕ → ℕ
stored_after answer count old = value_after 0 3 (update_numbers answer count) old

-- "10 stores the length needed."
abbrev pub needed_after : ListAnswer → ℕ → ℕ
needed_after answer old = value_after (refusal_number BufferShort) 1 (list_numbers answer) old

-- what such a call answers, and what it leaves: the bytes of the record, the buffer, n and t
pub record ListOutcome : Type 0 where
  pub answer : ℕ
  pub bytes : List ℕ
  pub buffer : List ℕ
  pub n : ℕ
  pub t : ℕ

-- by what the call on the record gives back, x, and the buffer as that call leaves it, new
abbrev pub list_outcome : List ℕ → Sent → List ℕ → List ℕ → ℕ → ℕ → ListOutcome
list_outcome bytes x new buffer n t = record {
  answer = list_number (list_answer bytes x);
  bytes = list_bytes bytes x;
  buffer = buffer_after bytes new buffer;
  n = n_after (list_answer bytes x) n;
  t = t_after (list_answer bytes x) t;
}

-- "14 (a present record, records_size, or present above 15)", as the answer of a round
unfoldable pub round_answer_by : List ℕ → ℕ → ListAnswer → ListAnswer
round_answer_by bytes present answer = cond (round_sized bytes present) answer (refused Unsound)

-- a round's outcome, by what the call on the four records gives back, x, and the buffer as that call leaves it, new
abbrev pub round_outcome : List ℕ → ℕ → Rounded → List ℕ → List ℕ → ℕ → ℕ → ListOutcome
round_outcome bytes present x new buffer n t =
    let answer = round_answer_by bytes present x.answer in
    record {
      answer = list_number answer;
      bytes = cond (is_listed answer) (records_bytes x.records) bytes;
      buffer = cond (round_sized bytes present) new buffer;
      n = n_after answer n;
      t = t_after answer t;
    }

-- every value of an answer fits the 32 bits that it is stored in
abbrev pub Fits : ListAnswer → Type 0
Fits (Ok l) = (l.n < 2 ^ 32) × (l.t < 2 ^ 32)
Fits (Err (Short needed)) = needed < 2 ^ 32
Fits (Err (Refused refusal)) = Unit

-- ---- The transactions of a list

-- the number of a place and its values: "11 sizes of a list do not add up", "26 no such transaction"
unfoldable pub place_numbers : Result Place PlaceError → List ℕ
place_numbers (Ok p) = 0 ∷ p.offset ∷ p.length ∷ []
place_numbers (Err BadSizes) = refusal_number ListSizes ∷ []
place_numbers (Err NoIndex) = refusal_number NoTransaction ∷ []

-- what such a call answers, and the two numbers as it leaves them
pub record PlaceOutcome : Type 0 where
  pub answer : ℕ
  pub offset : ℕ
  pub size : ℕ

-- "0 stores both.": else what stood there stays
abbrev pub place_outcome : Result Place PlaceError → ℕ → ℕ → PlaceOutcome
place_outcome place offset size = record {
  answer = get_or (place_numbers place) 0 0;
  offset = get_or (place_numbers place) 1 offset;
  size = get_or (place_numbers place) 2 size;
}

-- ---- Faults

-- "14 unsound record or chip, or its size is wrong", as the answer of Faults
unfoldable pub faults_answer_by : List ℕ → faults.Answer → faults.Answer
faults_answer_by bytes answer = cond (record_sized bytes) answer (Err Unsound)

-- what it answers, and what it leaves: the result and the two answers about 064h
pub record FaultsOutcome : Type 0 where
  pub answer : ℕ
  pub result : List ℕ
  pub opens : ℕ
  pub shorts : ℕ

-- "opens_agree is 1 if bit 1 of 064h says whether a dot is open, shorts_agree if bit 0 does for short, else 0.": by the answer, and the
-- result as the call leaves it, new
abbrev pub faults_outcome : faults.Answer → List ℕ → ℕ → ℕ → FaultsOutcome
faults_outcome answer new opens shorts = record {
  answer = get_or (answer_numbers answer) 0 0;
  result = new;
  opens = get_or (answer_numbers answer) 1 opens;
  shorts = get_or (answer_numbers answer) 2 shorts;
}
