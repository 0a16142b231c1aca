-- Update and Reset: document 01, "Burst lists"; Clear, and what an update answers that it stored: document 02, Q-1 and Q-4. Each call
-- sends some writes, and sending is defined once, in three parts: the answer, the record that the call returns with it, and the buffer as
-- it leaves it.
-- Assumes nothing.
use Rattle.std.specs.Prelude.{Bool, true, false, cond, List, [], ◌∷◌, ◌++◌, ℕ, ◌+◌, ◌*◌, Result, Ok, Err, leb, length, get_or, drop}
use Rattle.std.specs.Result.{is_ok}
use Rattle.map.specs.declared.refusals.Refusal.{Refusal}
use Rattle.map.specs.declared.refusals.Refusal.TheVariants.{BufferShort, Unsound}
use Rattle.map.specs.Refusals.{refusal_number}
use Rattle.burst.specs.Burst.{Burst, bus_bytes, data_bytes, encode}
use Rattle.plan.specs.Update.{update_for, store_all}
use Rattle.host.specs.declared.Record.{Record}
use Rattle.host.specs.Record.{record_of, sound_of, may_write, chip_reset}
use Rattle.writes.specs.Marks.{chip_view}
use Rattle.update.specs.declared.Listed.{Listed}
use Rattle.update.specs.declared.NotListed.{NotListed}
use Rattle.update.specs.declared.NotListed.TheVariants.{Short, Refused}
use Rattle.update.specs.declared.Sent.{Sent}
use Rattle.update.specs.declared.Updated.{Updated}

-- ---- Answers

-- what a call answers that writes a list: n transactions of t bytes together; or that the buffer is too short, and the length needed; or
-- another refusal
abbrev pub ListAnswer : Type 0
ListAnswer = Result Listed NotListed

abbrev pub listed : ℕ → ℕ → ListAnswer
listed n t = Ok (record { n = n; t = t })

abbrev pub short : ℕ → ListAnswer
short needed = Err (Short needed)

abbrev pub refused : Refusal → ListAnswer
refused r = Err (Refused r)

-- the number and the values of an answer: 0 with n and t; 10 with the length needed; another refusal "carries only its number"
abbrev pub list_numbers : ListAnswer → List ℕ
list_numbers (Ok l) = 0 ∷ l.n ∷ l.t ∷ []
list_numbers (Err (Short needed)) = refusal_number BufferShort ∷ needed ∷ []
list_numbers (Err (Refused r)) = refusal_number r ∷ []

-- Q-4: "Update also answers how many image bytes it stored": behind n and t
abbrev pub update_numbers : ListAnswer → ℕ → List ℕ
update_numbers (Ok l) stored = 0 ∷ l.n ∷ l.t ∷ stored ∷ []
update_numbers (Err e) stored = list_numbers (Err e)

-- the number alone
abbrev pub list_number : ListAnswer → ℕ
list_number answer = get_or (list_numbers answer) 0 0

-- "Otherwise exactly those bytes are written": whether a list was
abbrev pub is_listed : ListAnswer → Bool
is_listed answer = is_ok answer

-- ---- Sending

-- "4 + 2n + t"
abbrev pub list_size : List Burst → ℕ
list_size bs = 4 + 2 * length bs + bus_bytes bs

-- "exactly those bytes are written": the front of the buffer, and the rest as it was
abbrev pub over : List ℕ → List ℕ → List ℕ
over bytes buffer = bytes ++ drop (length bytes) buffer

-- What a call sends: its writes, what it answers of a buffer that is too short for their list, and the host's record once they are sent.
pub record Sending : Type 0 where
  pub writes : List Burst
  pub short : ListAnswer
  pub host : Record

-- "Every call but Open .. first refuses an unsound record with 14." "10: buffer shorter than 4 + 2n + t". "Otherwise .. n and t
-- answered"
unfoldable pub send_answer : Record → Sending → ℕ → ListAnswer
send_answer r x size =
    cond (sound_of r)
    (cond (leb (list_size x.writes) size) (listed (length x.writes) (bus_bytes x.writes)) x.short)
    (refused Unsound)

-- the answer, and the host's record: "a refusal returns it unchanged"
unfoldable pub send_of : Record → Sending → ℕ → Sent
send_of r x size = record {
  answer = send_answer r x size;
  host = cond (is_listed (send_answer r x size)) x.host r;
}

-- "Otherwise exactly those bytes are written": a call that is refused leaves the buffer as it was
unfoldable pub send_buffer : Record → Sending → List ℕ → List ℕ
send_buffer r x buffer =
    cond (is_listed (send_answer r x (length buffer))) (over (encode r.header.bus r.header.pins x.writes) buffer) buffer

-- ---- Update

-- the writes of an update: document 01's two sentences are `update_for` and `plan` of the crate plan
unfoldable pub writes_of : Record → List Burst
writes_of r = update_for (may_write r.header) 908 r.settings (chip_view r)

-- "the answer carries the length needed." ".. and the chip image takes the data bytes at their addresses."
abbrev pub updating : Record → Sending
updating r = record {
  writes = writes_of r;
  short = short (list_size (writes_of r));
  host = record_of r.header r.settings (store_all (writes_of r) r.image);
}

abbrev pub update_answer : Record → ℕ → ListAnswer
update_answer r size = send_answer r (updating r) size

-- Q-4: "how many image bytes it stored": one for each data byte that it sent, and none where no list was written
abbrev pub update_stored : Record → ℕ → ℕ
update_stored r size = cond (is_listed (update_answer r size)) (data_bytes (writes_of r)) 0

-- the whole of what an update answers: its list's answer, that number, and the host's record
abbrev pub update_of : Record → ℕ → Updated
update_of r size = record { answer = (send_of r (updating r) size).answer; stored = update_stored r size; host = (send_of r (updating r) size).host }

abbrev pub update_buffer : Record → List ℕ → List ℕ
update_buffer r buffer = send_buffer r (updating r) buffer

-- ---- Reset and Clear

-- one write
abbrev pub command_write : ℕ → List ℕ → List Burst
command_write a bytes = record { start = a; bytes = bytes } ∷ []

-- a buffer that is too short is refused with 10, which "carries only its number"
abbrev pub command : ℕ → List ℕ → Record → Sending
command a bytes host = record { writes = command_write a bytes; short = refused BufferShort; host = host }

-- Reset: "10: under 9 bytes. One write of FFh to 0A9h". "After either, the chip image has reset values and the settings are kept.", and the
-- lock is released
abbrev pub resetting : Record → Sending
resetting r = command 0x0A9 (0xFF ∷ []) (chip_reset r)

abbrev pub reset_answer : Record → ℕ → ListAnswer
reset_answer r size = send_answer r (resetting r) size

abbrev pub chip_reset_of : Record → ℕ → Sent
chip_reset_of r size = send_of r (resetting r) size

abbrev pub reset_buffer : Record → List ℕ → List ℕ
reset_buffer r buffer = send_buffer r (resetting r) buffer

-- Clear: "one write of 0Fh 0Fh from 0A7h, four bus bytes. It needs a buffer of 10 bytes, else 10." As document 01's Clear calls, it
-- leaves "the record unchanged."
abbrev pub clearing : Record → Sending
clearing r = command 0x0A7 (0x0F ∷ 0x0F ∷ []) r

abbrev pub clear_answer : Record → ℕ → ListAnswer
clear_answer r size = send_answer r (clearing r) size

abbrev pub clear_of : Record → ℕ → Sent
clear_of r size = send_of r (clearing r) size

abbrev pub clear_buffer : Record → List ℕ → List ℕ
clear_buffer r buffer = send_buffer r (clearing r) buffer
