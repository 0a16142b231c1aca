-- Places, ledgers and the count of rounds, computed.
-- Assumes nothing.
use Rattle.std.specs.Prelude.{◌≡◌, refl, Bool, List, [], ◌∷◌, map, ℕ}
use Rattle.burst.specs.Burst.{Burst, bus_bytes}
use Rattle.plan.specs.Portion.{portion}
use Rattle.calls.specs.declared.Setting.TheVariants.{Lamp, Switch}
use Rattle.calls.specs.declared.Request.TheVariants.{Set, Update}
use Rattle.rounds.specs.Round.{deal, final_portions}
use Rattle.history.specs.declared.World.{World}
use Rattle.history.specs.Ledger.{Told}
use Rattle.history.specs.History.{Call}
use Rattle.demand.specs.Events.{call}
use Rattle.bus.specs.Bus.{BusCall, plain, round}
use Rattle.bus_demand.specs.BusLists.{bus_told}
use Rattle.bus_demand.specs.Places.{events_at}
use Rattle.bus_demand.specs.Finishing.{differing}

-- ---- Two panels, at the places 0 and 2

lamp : Call
lamp = record { request = Set (Lamp 0 0 100); lent = [] }

switch : Call
switch = record { request = Set (Switch 0 1 1); lent = [] }

update : Call
update = record { request = Update; lent = [] }

-- a lamp of each, an Update of the second, a switch of the first
calls : List BusCall
calls = plain 0 lamp ∷ plain 2 lamp ∷ plain 2 update ∷ plain 0 switch ∷ []

-- each place has its own calls for its events, in order, whatever the worlds
events_at_0 : (w : ℕ → World) → events_at 0 w calls ≡ call lamp ∷ call switch ∷ []
unfolding calls
events_at_0 w = refl

events_at_2 : (w : ℕ → World) → events_at 2 w calls ≡ call lamp ∷ call update ∷ []
unfolding calls
events_at_2 w = refl

events_at_1 : (w : ℕ → World) → events_at 1 w calls ≡ []
unfolding calls
events_at_1 w = refl

-- its ledger is told these, and nothing of a round
told_at_0 : (w : ℕ → World) (present : ℕ → Bool) (limit : ℕ) (buffer : List ℕ) →
    map (λ (x : Told). x.request) (bus_told 0 w (round present limit buffer ∷ calls)) ≡ Set (Lamp 0 0 100) ∷ Set (Switch 0 1 1) ∷ []
unfolding calls lamp switch
told_at_0 w present limit buffer = refl

-- ---- As many rounds as registers differ

-- 000h counts: of these four registers the first and the last differ
two_differ : differing (0x01 ∷ 0x5E ∷ 0x00 ∷ 0x57 ∷ []) (0x00 ∷ 0x5E ∷ 0x00 ∷ 0x47 ∷ []) 4 ≡ 2
unfolding differing
two_differ = refl

-- Two registers far apart differ, at each of four places: with B = 12 a round sends each chip one of them, so that it takes two rounds.
apart : List Burst
apart = record { start = 0x000; bytes = 0x01 ∷ [] } ∷ record { start = 0x202; bytes = 0x40 ∷ [] } ∷ []

one_each : map bus_bytes (final_portions 12 (apart ∷ apart ∷ apart ∷ apart ∷ [])) ≡ 3 ∷ 3 ∷ 3 ∷ 3 ∷ []
unfolding deal portion apart
one_each = refl
