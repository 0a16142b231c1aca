-- Four panels in a script: "There are four panels, 0 to 3, each with its own record, chip and ledger". What stands at the places 0 to 3 is a
-- function of the place: s is the sessions. A number above 3 names the last place.
-- Assumes nothing.
use Rattle.std.specs.Prelude.{cond, None, List, [], ◌∷◌, map, ℕ, eqb}
use Rattle.history.specs.Step.{call_numbers}
use Rattle.rounds.specs.Round.{at_place, present_by}
use Rattle.history.specs.declared.World.{World}
use Rattle.bus.specs.declared.BusRequest.TheVariants.{Round}
use Rattle.bus.specs.declared.BusStepped.{BusStepped}
use Rattle.bus.specs.Bus.{BusCall, no_world, place_of, world_at, call_of, bus_lent, stepped_of}
use Rattle.session.specs.declared.Session.{Session}
use Rattle.session.specs.Run.{opened_session, with_world}
use Rattle.booth.specs.declared.Booth.{Booth}
use Rattle.booth.specs.declared.BoothRounded.{BoothRounded}

-- the session of a place
abbrev pub no_session : Session
no_session = record { world = no_world; ledger = None }

abbrev pub session_at : Booth → ℕ → Session
session_at x = at_place no_session x.sessions

-- four sessions, with place k the current one
abbrev pub booth_of : (ℕ → Session) → ℕ → Booth
booth_of s k = record { sessions = s 0 ∷ s 1 ∷ s 2 ∷ s 3 ∷ []; current = k }

-- "all at first those of `open 0 0 0`"; "at the start it is 0"
unfoldable pub fresh_booth : Booth
fresh_booth = booth_of (λ k. opened_session 0 0 0) 0

-- "the one that all other lines are about"
unfoldable pub current_of : Booth → Session
current_of x = session_at x x.current

-- another session at the current place; those of the other places stay
unfoldable pub with_current : Booth → Session → Booth
with_current x s = booth_of (λ k. cond (eqb k (place_of x.current)) s (session_at x k)) x.current

-- "`panel K` .. makes K the one that all other lines are about"
unfoldable pub selected : Booth → ℕ → Booth
selected x k = booth_of (session_at x) k

-- ---- `round`

-- the records and the chips of the four panels
abbrev pub panels_in : Booth → List World
panels_in x = map (λ k. (session_at x k).world) (0 ∷ 1 ∷ 2 ∷ 3 ∷ [])

-- others of them: "It tells no ledger, and it leaves the current panel as it is."
unfoldable pub with_panels : Booth → List World → Booth
with_panels x y = booth_of (λ k. with_world (session_at x k) (world_at y k)) x.current

-- "Round of the four records, with a buffer of L bytes": the bus call, with the marks p, "bit k says that panel k is present", and B
unfoldable pub round_call : ℕ → ℕ → List ℕ → BusCall
round_call p limit buffer = call_of (Round (present_by p) limit) buffer

-- what it answers, and the four panels after it. "An accepted list is fed at once to the chip of every panel k whose chip is on bus 0 with pins k"
unfoldable pub rounded_booth : Booth → ℕ → ℕ → List ℕ → BoothRounded
rounded_booth x p limit buffer =
    let after : BusStepped = stepped_of (panels_in x) (round_call p limit buffer) in
    record { numbers = call_numbers after.answer; booth = with_panels x after.panels }

-- the buffer as it leaves it
unfoldable pub round_lent : Booth → ℕ → ℕ → List ℕ → List ℕ
round_lent x p limit buffer = bus_lent (world_at (panels_in x)) (round_call p limit buffer)
