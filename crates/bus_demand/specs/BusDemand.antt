-- Demand 3 for four places, a claim about whole lists of bus calls: document 01, "The ledger and whole lists"; document 02, Q-3: "Demand 3's
-- list may hold rounds, each fed to every chip". m, b and p are the member, bus and pins that Open was given at each place.
-- Assumes nothing.
use Rattle.std.specs.Prelude.{◌≡◌, Bool, true, List, [], ◌∷◌, ◌++◌, ℕ, ◌≤◌, ◌<◌}
use Rattle.map.specs.Images.{reset_image}
use Rattle.burst.specs.Burst.{n_of, t_of, transactions}
use Rattle.plan.specs.Lists.{All}
use Rattle.plan.specs.Portion.{portion, Begins}
use Rattle.calls.specs.declared.Request.TheVariants.{Update}
use Rattle.update.specs.Update.{listed, writes_of}
use Rattle.rounds.specs.Round.{share_of, round_list, part_at, round_parts}
use Rattle.history.specs.declared.World.{World}
use Rattle.history.specs.declared.CallAnswer as answers
use Rattle.history.specs.Ledger.{wants_on}
use Rattle.history.specs.Step.{list_in}
use Rattle.demand.specs.Demand.{SameWritable, Allowed, AllAllowed, UpdateAnswers, update_list, Owed, Demand3}
use Rattle.bus.specs.Bus.{hosts_of, BusCall, plain, round, bus_answer, bus_lent}
use Rattle.bus_demand.specs.BusLists.{starts, panels_after, ledger_at}
use Rattle.bus_demand.specs.Places.{Opened, place_events}

-- ---- Updates and rounds in a list of bus calls

-- an Update at place k, with this buffer
abbrev pub update_at : ℕ → List ℕ → BusCall
update_at k buffer = plain k (record { request = Update; lent = buffer })

module _ (m b p : ℕ → ℕ) where
  -- The calls are those `before`, an Update at place k with this buffer that answers n, t and stored, and those `behind` it.
  pub record UpdatesAt (k : ℕ) (calls before behind : List BusCall) (buffer : List ℕ) (n t stored : ℕ) : Type 0 where
    pub calls_are : calls ≡ before ++ (update_at k buffer ∷ behind)
    pub answers : UpdateAnswers (panels_after m b p before k) buffer n t stored

  -- The calls are those `before`, this round, which is accepted and answers n and t, and those `behind` it.
  pub record Rounds (calls before behind : List BusCall) (present : ℕ → Bool) (limit : ℕ) (buffer : List ℕ) (n t : ℕ) : Type 0 where
    pub calls_are : calls ≡ before ++ (round present limit buffer ∷ behind)
    pub answers : bus_answer (panels_after m b p before) (round present limit buffer) ≡ answers.TheVariants.List (listed n t)

-- the list that a round wrote on the worlds w
abbrev pub list_of_round : (ℕ → World) → (ℕ → Bool) → ℕ → List ℕ → ℕ → ℕ → List ℕ
list_of_round w present limit buffer n t = list_in n t (bus_lent w (round present limit buffer))

-- ---- What is owed of a round

module _ (b p : ℕ → ℕ) (w : ℕ → World) (present : ℕ → Bool) where
  -- a transaction x is for the chip of a place that is present: a write to it, and each data byte for an address that may be written
  pub record ForPlace (x : List ℕ) : Type 0 where
    pub place : ℕ
    pub is_place : place < 4
    pub is_present : present place ≡ true
    pub allowed : Allowed (b place) (p place) (w place).host.header x

  -- w is the worlds before it, `list` what it wrote, and it answered n and t.
  pub record RoundOwed (limit : ℕ) (list : List ℕ) (n t : ℕ) : Type 0 where
    -- demand 3: "no update names an address outside the member's writable ones", and no round does
    pub names : All ForPlace (transactions list)
    -- "The round writes one list, the final portions in pin order, and answers its n and t"
    pub list_is : list ≡ round_list (round_parts present (hosts_of w) limit)
    pub n_is : n_of list ≡ n
    pub t_is : t_of list ≡ t
    -- "No round sends more than B."
    pub most : t ≤ limit
    -- "Each sends at least its portion within its share": what a present place is sent begins with it
    pub share : (k : ℕ) → k < 4 → present k ≡ true →
        Begins (portion (share_of limit) (writes_of (w k).host)) (part_at (round_parts present (hosts_of w) limit) k)

-- ---- The claim

module _ (m b p : ℕ → ℕ) where
  pub record BusDemand3 (calls : List BusCall) : Type 0 where
    -- each place is owed all of demand 3 for its own events: a plain call at it, and its part of each accepted round that it is in
    pub each : (k : ℕ) → k < 4 → Demand3 (m k) (b k) (p k) (reset_image (m k)) (starts m b p k) (place_events m b p k calls)
    -- demand 3: "no update names an address outside the member's writable ones", those that may be written (`bus_may_write` of BusTheorem): no
    -- accepted Update of any place, wherever it stands
    pub names : (k : ℕ) → k < 4 → (before behind : List BusCall) (buffer : List ℕ) (n t stored : ℕ) →
        UpdatesAt m b p k calls before behind buffer n t stored →
        AllAllowed (b k) (p k) (panels_after m b p before k).host.header (transactions (update_list (panels_after m b p before k) buffer n t))
    -- what is owed of each accepted round, wherever it stands
    pub rounds : (before behind : List BusCall) (present : ℕ → Bool) (limit : ℕ) (buffer : List ℕ) (n t : ℕ) →
        Rounds m b p calls before behind present limit buffer n t →
        RoundOwed b p (panels_after m b p before) present limit (list_of_round (panels_after m b p before) present limit buffer n t) n t
    -- demand 3: "and if the last call is an accepted update"; Q-3: "the fewest-bytes rule then covers plain updates only"
    pub last : (k : ℕ) → k < 4 → (before : List BusCall) (buffer : List ℕ) (n t stored : ℕ) → UpdatesAt m b p k calls before [] buffer n t stored →
        Owed (m k) (b k) (p k) (ledger_at m b p k calls) (panels_after m b p before k) (panels_after m b p calls k)
        (update_list (panels_after m b p before k) buffer n t) n t
    -- Q-3: "but the register values are owed once a chip wanted on is finished", whatever the last call was. "A chip is finished when its
    -- pending list is empty."
    pub finished : (k : ℕ) → k < 4 → writes_of (panels_after m b p calls k).host ≡ [] → wants_on (ledger_at m b p k calls) ≡ true →
        SameWritable (m k) (panels_after m b p calls k).chip.registers (ledger_at m b p k calls)

-- for every list of bus calls on four panels, each with an accepted Open of its own
abbrev pub BusWholeLists : Type 0
BusWholeLists = (m b p : ℕ → ℕ) → Opened m b p → (calls : List BusCall) → BusDemand3 m b p calls
