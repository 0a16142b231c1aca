-- What Clear does to the chip: document 02, Q-1; and that it takes nothing from demand 3.
-- Assumes nothing.
use Rattle.std.specs.Prelude.{◌≡◌, true, false, List, [], ◌∷◌, ◌++◌, ℕ, ◌≤◌, length}
use Rattle.map.specs.Refusals.{accepted}
use Rattle.burst.specs.Burst.{encode}
use Rattle.host.specs.declared.Record.{Record}
use Rattle.host.specs.Record.{sound_of, open_of}
use Rattle.update.specs.Update.{command_write}
use Rattle.chip.specs.declared.Chip.{Chip}
use Rattle.chip.specs.Chip.{is_on, feed_of}
use Rattle.history.specs.declared.World.{World}
use Rattle.history.specs.Step.{clear_step}
use Rattle.history.specs.History.{start}
use Rattle.demand.specs.Events.{Event, run, ledger_after}
use Rattle.demand.specs.Demand.{Demand3}

-- the chip, fed the list of one write of 0Fh to a; the record says with which heads
abbrev pub fed_once : Record → ℕ → Chip → Chip
fed_once r a c = (feed_of c (encode r.header.bus r.header.pins (command_write a (0x0F ∷ [])))).chip

-- "On the model the new call leaves what the two did, in either order.": the whole chip, with all its 908 bytes. The record stays.
pub record ClearsBoth (w : World) (buffer : List ℕ) : Type 0 where
  pub opens_first : (clear_step w buffer).world.chip ≡ fed_once w.host 0x0A8 (fed_once w.host 0x0A7 w.chip)
  pub shorts_first : (clear_step w buffer).world.chip ≡ fed_once w.host 0x0A7 (fed_once w.host 0x0A8 w.chip)
  pub host_stays : (clear_step w buffer).world.host ≡ w.host

-- "In standby .. only 000h and 0A9h are heard": none of the three changes anything
pub record ClearsNothing (w : World) (buffer : List ℕ) : Type 0 where
  pub opens : fed_once w.host 0x0A7 w.chip ≡ w.chip
  pub shorts : fed_once w.host 0x0A8 w.chip ≡ w.chip
  pub both : (clear_step w buffer).world.chip ≡ w.chip

-- a sound record, and a sound chip of its member, bus and pins
pub record Paired (w : World) : Type 0 where
  pub host_sound : sound_of w.host ≡ true
  pub chip_sound : Rattle.chip.specs.Chip.sound_of w.chip ≡ true
  pub member : w.chip.member ≡ w.host.header.member
  pub bus : w.chip.bus ≡ w.host.header.bus
  pub pins : w.chip.pins ≡ w.host.header.pins

-- The claim, for every buffer that has room.
abbrev pub ClearClaim : Type 0
ClearClaim = (w : World) → Paired w → (buffer : List ℕ) → 10 ≤ length buffer → ClearsBoth w buffer × (is_on w.chip.registers ≡ false → ClearsNothing w buffer)

-- ---- Clears among the events of demand 3

-- some events of demand 3's list, and behind them a Clear with this buffer
pub record Stretch : Type 0 where
  pub events : List Event
  pub buffer : List ℕ

-- the record and its chip after these stretches
abbrev pub run_clears : World → List Stretch → World
run_clears w [] = w
run_clears w (x ∷ xs) = run_clears (clear_step (run w x.events) x.buffer).world xs

-- their events, the Clears left out
abbrev pub events_of : List Stretch → List Event
events_of [] = []
events_of (x ∷ xs) = x.events ++ events_of xs

-- With Clears wherever one likes, accepted or refused, demand 3 is owed for all events behind them, with the ledger of all calls before.
abbrev pub ClearedLists : Type 0
ClearedLists =
    (m b p : ℕ) → accepted (open_of m b p).answer ≡ true → (stretches : List Stretch) (behind : List Event) →
    Demand3 m b p (ledger_after m b p (events_of stretches)) (run_clears (start m b p) stretches) behind
