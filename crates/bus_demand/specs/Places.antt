-- What a list of bus calls is to one place: its own list of events, those of demand 3 for one panel. w is the worlds before the calls.
-- Assumes nothing.
use Rattle.std.specs.Prelude.{◌≡◌, cond, true, ◌&&◌, List, [], ◌∷◌, ◌++◌, ℕ, ◌<◌, eqb, length}
use Rattle.map.specs.Refusals.{accepted}
use Rattle.host.specs.Record.{open_of}
use Rattle.rounds.specs.Round.{round_room}
use Rattle.history.specs.declared.World.{World}
use Rattle.demand.specs.Events.{Event, call, part, world_after, told, ledger_after}
use Rattle.bus.specs.Bus.{hosts_of, accepts, BusCall, plain, round, bus_step}
use Rattle.bus_demand.specs.BusLists.{bus_told, starts, panels_after, ledger_at}

-- A plain call is an event at its own place. An accepted round is a part at each place that is present: its portion within the bytes that
-- the round has for it. It is nothing at the others, and a refused round is nothing at any.
abbrev pub events_of : ℕ → (ℕ → World) → BusCall → List Event
events_of k w (plain j c) = cond (eqb k j) (call c ∷ []) []
events_of k w (round present limit buffer) =
    cond (accepts present limit (length buffer) w && present k) (part (round_room present (hosts_of w) limit k) ∷ []) []

abbrev pub events_at : ℕ → (ℕ → World) → List BusCall → List Event
events_at k w [] = []
events_at k w (c ∷ cs) = events_of k w c ++ events_at k (bus_step w c) cs

-- ---- The bridge

-- each place has "the record of an accepted Open", of any member, bus and pins
abbrev pub Opened : (ℕ → ℕ) → (ℕ → ℕ) → (ℕ → ℕ) → Type 0
Opened m b p = (k : ℕ) → k < 4 → accepted (open_of (m k) (b k) (p k)).answer ≡ true

module _ (m b p : ℕ → ℕ) where
  abbrev pub place_events : ℕ → List BusCall → List Event
  place_events k calls = events_at k (starts m b p) calls

  -- Place k after these bus calls is what its own events give of one panel: its world, what its ledger was told, and the ledger's bytes.
  pub record OwnEvents (calls : List BusCall) (k : ℕ) : Type 0 where
    pub world : panels_after m b p calls k ≡ world_after (m k) (b k) (p k) (place_events k calls)
    pub told_is : bus_told k (starts m b p) calls ≡ told (starts m b p k) (place_events k calls)
    pub ledger : ledger_at m b p k calls ≡ ledger_after (m k) (b k) (p k) (place_events k calls)

-- so it is at every place, after every list of bus calls
abbrev pub EachPlace : Type 0
EachPlace = (m b p : ℕ → ℕ) → Opened m b p → (calls : List BusCall) (k : ℕ) → k < 4 → OwnEvents m b p calls k
