-- A round: document 02, Q-3, "Four panels on one bus." A place is 0 to 3, "in pin order"; what stands at the places is a function of the
-- place. `limit` is B, and `size` the length of the buffer.
-- Assumes nothing.
use Rattle.std.specs.Prelude.{Bool, false, cond, not, ◌&&◌, ◌||◌, List, [], ◌∷◌, ◌++◌, map, ℕ, zero, suc, ◌+◌, ◌-◌, ◌*◌, ◌/◌, ◌%◌, ◌^◌, leb, eqb, min, length, get_or}
use Rattle.map.specs.declared.refusals.Refusal.TheVariants.{BufferShort, Unsound, RoundLimit, NotItsPlace}
use Rattle.burst.specs.Burst.{Burst, transaction_of, bus_bytes, list_of}
use Rattle.plan.specs.Update.{store_all}
use Rattle.plan.specs.Portion.{portion}
use Rattle.host.specs.declared.Record.{Record}
use Rattle.host.specs.Record.{record_of, sound_of}
use Rattle.update.specs.Update.{ListAnswer, listed, refused, is_listed, over, writes_of}
use Rattle.rounds.specs.declared.Rounded.{Rounded}

-- ---- How B is dealt out: cs are the pending lists of the places

-- the bus bytes of some parts together
abbrev pub bytes_all : List (List Burst) → ℕ
bytes_all [] = 0
bytes_all (bs ∷ parts) = bus_bytes bs + bytes_all parts

-- "A share is B / 4, whole."
abbrev pub share_of : ℕ → ℕ
share_of limit = limit / 4

-- "First each chip's portion within its share is found." "What B has left over then"
abbrev pub left_over : ℕ → List (List Burst) → ℕ
left_over limit cs = limit - bytes_all (map (portion (share_of limit)) cs)

-- "goes round in pin order: each chip's portion is found anew within its first portion plus what is still left."
unfoldable pub deal : ℕ → ℕ → List (List Burst) → List (List Burst)
deal share left [] = []
deal share left (c ∷ cs) =
    let room = bus_bytes (portion share c) + left in
    portion room c ∷ deal share (room - bus_bytes (portion room c)) cs

-- the number of bytes that the portion of a place is found within at last
unfoldable pub room_at : ℕ → ℕ → List (List Burst) → ℕ → ℕ
room_at share left [] k = 0
room_at share left (c ∷ cs) zero = bus_bytes (portion share c) + left
room_at share left (c ∷ cs) (suc k) =
    let room = bus_bytes (portion share c) + left in
    room_at share (room - bus_bytes (portion room c)) cs k

-- "the final portions in pin order"
abbrev pub final_portions : ℕ → List (List Burst) → List (List Burst)
final_portions limit cs = deal (share_of limit) (left_over limit cs) cs

-- ---- The list

-- the transactions of some parts, the first for pins q, each next one for the next pins, on I2C
abbrev pub pinned : ℕ → List (List Burst) → List (List ℕ)
pinned q [] = []
pinned q (bs ∷ parts) = map (transaction_of 0 q) bs ++ pinned (suc q) parts

-- "The round writes one list, the final portions in pin order"
unfoldable pub round_list : List (List Burst) → List ℕ
round_list parts = list_of (pinned 0 parts)

-- "its n and t"
abbrev pub count_all : List (List Burst) → ℕ
count_all [] = 0
count_all (bs ∷ parts) = length bs + count_all parts

-- "4 + 2n + t"
abbrev pub round_size : List (List Burst) → ℕ
round_size parts = 4 + 2 * count_all parts + bytes_all parts

-- the part of a place
abbrev pub part_at : List (List Burst) → ℕ → List Burst
part_at [] k = []
part_at (bs ∷ parts) zero = bs
part_at (bs ∷ parts) (suc k) = part_at parts k

-- ---- The call

-- "B under 12 or above 4,096"
abbrev pub least_limit : ℕ
least_limit = 12

abbrev pub most_limit : ℕ
most_limit = 4096

-- it holds at each of the four places
abbrev pub every_place : (ℕ → Bool) → Bool
every_place f = f 0 && (f 1 && (f 2 && f 3))

-- "each chip image takes what its chip is sent"
abbrev pub takes : Record → List Burst → Record
takes r xs = record_of r.header r.settings (store_all xs r.image)

-- "over four records, any of them marked absent and then neither checked nor changed."
module _ (present : ℕ → Bool) (records : ℕ → Record) where
  -- the "pending list, Update's" of a place that is present
  abbrev pub waiting : ℕ → List Burst
  waiting k = cond (present k) (writes_of (records k)) []

  abbrev pub waitings : List (List Burst)
  waitings = waiting 0 ∷ waiting 1 ∷ waiting 2 ∷ waiting 3 ∷ []

  abbrev pub round_parts : ℕ → List (List Burst)
  round_parts limit = final_portions limit waitings

  -- the bytes that a round has for a place: its part is its portion within these (`part_is` of DealLaws)
  abbrev pub round_room : ℕ → ℕ → ℕ
  round_room limit k = room_at (share_of limit) (left_over limit waitings) waitings k

  -- 14
  abbrev pub present_sound : ℕ → Bool
  present_sound k = not (present k) || sound_of (records k)

  -- "16, a present record on SPI or whose pins are not its place"
  abbrev pub present_placed : ℕ → Bool
  present_placed k = not (present k) || (eqb (records k).header.bus 0 && eqb (records k).header.pins k)

  -- "Answers: 15, B under 12 or above 4,096; 16 ..; both after 14, before 10." "10 goes by this list."
  unfoldable pub round_answer : ℕ → ℕ → ListAnswer
  round_answer limit size =
      cond (every_place present_sound)
      (cond (leb least_limit limit && leb limit most_limit)
      (cond (every_place present_placed)
      (cond (leb (round_size (round_parts limit)) size) (listed (count_all (round_parts limit)) (bytes_all (round_parts limit))) (refused BufferShort))
      (refused NotItsPlace)) (refused RoundLimit)) (refused Unsound)

  -- a present record after an accepted round has taken its part; every other one is as it was
  unfoldable pub round_record : ℕ → ℕ → ℕ → Record
  round_record limit size k =
      cond (is_listed (round_answer limit size) && present k) (takes (records k) (part_at (round_parts limit) k)) (records k)

  -- the buffer has the list at its front, and a round that is refused leaves it as it was
  unfoldable pub round_buffer : ℕ → List ℕ → List ℕ
  round_buffer limit buffer = cond (is_listed (round_answer limit (length buffer))) (over (round_list (round_parts limit)) buffer) buffer

-- ---- Four as values of the program

-- marks as one number: "bit k of `present` is place k"
abbrev pub marked : ℕ → ℕ → Bool
marked marks k = eqb (marks / 2 ^ k % 2) 1

abbrev pub present_by : ℕ → List Bool
present_by marks = marked marks 0 ∷ marked marks 1 ∷ marked marks 2 ∷ marked marks 3 ∷ []

-- what stands at the place that a number names: 3 and every number above it is the last one
abbrev pub at_place : {A : Type 0} → A → List A → ℕ → A
at_place none xs k = get_or xs (min k 3) none

-- the mark and the record of a place; where the list is too short, nobody's
abbrev pub present_at : List Bool → ℕ → Bool
present_at = at_place false

abbrev pub no_record : Record
no_record = record_of (record { member = 0; bus = 0; pins = 0; marks = 0 }) [] []

abbrev pub record_at : List Record → ℕ → Record
record_at = at_place no_record

-- the answer, and the four records that the call gives back
unfoldable pub round_of : List Record → List Bool → ℕ → ℕ → Rounded
round_of records present limit size =
    let after = round_record (present_at present) (record_at records) limit size in
    record {
      answer = round_answer (present_at present) (record_at records) limit size;
      records = after 0 ∷ after 1 ∷ after 2 ∷ after 3 ∷ [];
    }
