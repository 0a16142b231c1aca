-- Lists of events, of which demand 3 is a claim: document 01, "The ledger and whole lists", and Q-3 and Q-5 of document 02. An event is a
-- call, or a part, what a round does to one world. m, b and p are the member, bus and pins that Open was given.
-- Assumes nothing.
use Rattle.std.specs.Prelude.{List, [], ◌∷◌, ℕ}
use Rattle.burst.specs.Burst.{Burst, encode}
use Rattle.plan.specs.Update.{store_all}
use Rattle.plan.specs.Portion.{portion}
use Rattle.host.specs.Record.{record_of}
use Rattle.update.specs.Update.{writes_of}
use Rattle.chip.specs.Chip.{feed_of}
use Rattle.history.specs.declared.World.{World}
use Rattle.history.specs.Ledger.{Told, told_of, ledger}
use Rattle.history.specs.Step.{answers_locked, step_of}
use Rattle.history.specs.History.{Call, start}

-- ---- A part: document 02, Q-3

-- "A chip's portion within some number of bytes is the longest beginning of its pending list, Update's, that fits" (plan: `portion_begins`,
-- `portion_bytes` and `portion_longest`)
abbrev pub part_of : World → ℕ → List Burst
part_of w room = portion room (writes_of w.host)

-- the chip hears these writes, in a list for the record's bus and pins; "each chip image takes what its chip is sent"
abbrev pub sent_to : World → List Burst → World
sent_to w xs = record {
  host = record_of w.host.header w.host.settings (store_all xs w.host.image);
  chip = (feed_of w.chip (encode w.host.header.bus w.host.header.pins xs)).chip;
}

-- a part: those of its portion within `room` bytes
abbrev pub part_step : World → ℕ → World
part_step w room = sent_to w (part_of w room)

-- ---- Lists of events

-- Q-3: "Demand 3's list may hold rounds". To one record and its chip an accepted round with it present is a part, its portion within some
-- number of bytes. The number is any, so that what a round gives it is among them; any other round is nothing to it.
pub data Event : Type 0 where
  call : Call → Event
  part : ℕ → Event

-- the record and its chip after one of them
abbrev pub event_step : World → Event → World
event_step w (call c) = (step_of w c.request c.lent).world
event_step w (part room) = part_step w room

-- "each next one the record the last one returned, refused or not; nobody else writes it."
abbrev pub run : World → List Event → World
run w [] = w
run w (e ∷ es) = run (event_step w e) es

-- the record and its chip after these events
abbrev pub world_after : ℕ → ℕ → ℕ → List Event → World
world_after m b p events = run (start m b p) events

-- What the ledger is told of a call on the world w: "all their arguments but the record", and of its answer no more than whether it is 17.
abbrev pub tell : World → Call → Told
tell w c = told_of c.request c.lent (answers_locked (step_of w c.request c.lent).answer)

-- "the calls in order": of each next one on the world that the last one left. A part sets nothing, and the ledger hears nothing of it.
abbrev pub told : World → List Event → List Told
told w [] = []
told w (call c ∷ es) = tell w c ∷ told (event_step w (call c)) es
told w (part room ∷ es) = told (event_step w (part room)) es

-- the ledger's bytes after these events
abbrev pub ledger_after : ℕ → ℕ → ℕ → List Event → List ℕ
ledger_after m b p events = ledger m (told (start m b p) events)
