-- Lists of bus calls, and the ledger of each place: document 02, Q-3. w is the worlds of the four places before the calls.
-- Assumes nothing.
use Rattle.std.specs.Prelude.{cond, List, [], ◌∷◌, ◌++◌, ℕ, eqb}
use Rattle.history.specs.declared.World.{World}
use Rattle.history.specs.Ledger.{Told, ledger}
use Rattle.history.specs.History.{start}
use Rattle.demand.specs.Events.{tell}
use Rattle.bus.specs.Bus.{BusCall, plain, round, bus_step}

-- the worlds after these calls
abbrev pub bus_run : (ℕ → World) → List BusCall → ℕ → World
bus_run w [] = w
bus_run w (c ∷ cs) = bus_run (bus_step w c) cs

-- ---- The ledger of a place

-- it is told the plain calls at that place
abbrev pub bus_tell : ℕ → (ℕ → World) → BusCall → List Told
bus_tell k w (plain j c) = cond (eqb k j) (tell (w k) c ∷ []) []
bus_tell k w (round present limit buffer) = []

abbrev pub bus_told : ℕ → (ℕ → World) → List BusCall → List Told
bus_told k w [] = []
bus_told k w (c ∷ cs) = bus_tell k w c ++ bus_told k (bus_step w c) cs

-- m, b and p: the member, bus and pins that Open was given at each place
module _ (m b p : ℕ → ℕ) where
  abbrev pub starts : ℕ → World
  starts k = start (m k) (b k) (p k)

  abbrev pub panels_after : List BusCall → ℕ → World
  panels_after calls = bus_run starts calls

  abbrev pub ledger_at : ℕ → List BusCall → List ℕ
  ledger_at k calls = ledger (m k) (bus_told k starts calls)
