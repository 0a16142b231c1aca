-- "While settings stand still and none resets or loses power, each chip is finished after at most as many accepted rounds with it present
-- as it has differing registers.": document 02, Q-3. w is the worlds of the four places before the calls.
-- Assumes nothing.
use Rattle.std.specs.Prelude.{◌≡◌, Bool, true, false, cond, ◌&&◌, List, [], ◌∷◌, ℕ, zero, suc, ◌+◌, ◌≤◌, ◌<◌, eqb, length}
use Rattle.plan.specs.Update.{value_at}
use Rattle.calls.specs.declared.Request.{Request}
use Rattle.calls.specs.declared.Request.TheVariants.{Set, Reset, PowerLost, Update, Lock}
use Rattle.host.specs.declared.Record.{Record}
use Rattle.update.specs.Update.{is_listed, writes_of, reset_answer}
use Rattle.history.specs.declared.World.{World}
use Rattle.history.specs.Step.{step_of}
use Rattle.history.specs.History.{Call}
use Rattle.bus.specs.Bus.{accepts, BusCall, plain, round, bus_step}
use Rattle.bus_demand.specs.BusLists.{bus_run, panels_after}
use Rattle.bus_demand.specs.Places.{Opened}

-- ---- "as it has differing registers"

-- of the first n registers, how many differ in settings and image: 000h counts as any other
unfoldable pub differing : List ℕ → List ℕ → ℕ → ℕ
differing settings image zero = 0
differing settings image (suc n) = differing settings image n + cond (eqb (value_at image n) (value_at settings n)) 0 1

abbrev pub differing_of : Record → ℕ
differing_of r = differing r.settings r.image 908

-- ---- "While settings stand still and none resets or loses power"

-- a Reset that is accepted resets, and so does every loss of power
abbrev pub resets : World → Request → List ℕ → Bool
resets w (Set q) lent = false
resets w Reset lent = is_listed (reset_answer w.host (length lent))
resets w PowerLost lent = true
resets w Update lent = false
resets w Lock lent = false

-- the call leaves the settings as they are, and does not reset
pub record Still (w : World) (c : Call) : Type 0 where
  pub settings : (step_of w c.request c.lent).world.host.settings ≡ w.host.settings
  pub no_reset : resets w c.request c.lent ≡ false

-- so does each plain call at place k; other places may do anything
abbrev pub StillUnder : ℕ → (ℕ → World) → BusCall → Type 0
StillUnder k w (plain j c) = k ≡ j → Still (w k) c
StillUnder k w (round present limit buffer) = Unit

abbrev pub StillAt : ℕ → (ℕ → World) → List BusCall → Type 0
StillAt k w [] = Unit
StillAt k w (c ∷ cs) = StillUnder k w c × StillAt k (bus_step w c) cs

-- ---- "accepted rounds with it present"

abbrev pub rounds_in : ℕ → (ℕ → World) → BusCall → ℕ
rounds_in k w (plain j c) = 0
rounds_in k w (round present limit buffer) = cond (accepts present limit (length buffer) w && present k) 1 0

abbrev pub rounds_at : ℕ → (ℕ → World) → List BusCall → ℕ
rounds_at k w [] = 0
rounds_at k w (c ∷ cs) = rounds_in k w c + rounds_at k (bus_step w c) cs

-- ---- The claim

-- "A chip is finished when its pending list is empty": so it is behind these calls, if they have as many rounds
abbrev pub Finishes : ℕ → (ℕ → World) → List BusCall → Type 0
Finishes k w calls = StillAt k w calls → differing_of (w k).host ≤ rounds_at k w calls → writes_of (bus_run w calls k).host ≡ []

-- for every place and every list of bus calls, behind any others from four accepted Opens
abbrev pub Finishing : Type 0
Finishing = (m b p : ℕ → ℕ) → Opened m b p → (before calls : List BusCall) (k : ℕ) → k < 4 → Finishes k (panels_after m b p before) calls
