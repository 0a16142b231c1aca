-- Demand 3 for a C program, a claim about whole lists of calls of include/lp586x.h: document 01, "The ledger and whole lists". m, b
-- and p are the member, bus and pins that lp586x_open and lp586x_chip_at_reset were given. It follows specs/Events.antt and specs/Demand.antt of
-- the crate demand name by name: a world is here a panel, an event is a call, which answers a number, and what it says of a chip is said of
-- the chip's bytes. It has no parts: lp586x_round is a call on four records.
-- Assumes nothing.
use Rattle.std.specs.Prelude.{◌≡◌, true, List, [], ◌∷◌, ◌++◌, ℕ, ◌≤◌, eqb, drop}
use Rattle.map.specs.declared.refusals.Refusal.TheVariants.{Locked}
use Rattle.map.specs.Refusals.{refusal_number}
use Rattle.map.specs.Images.{reset_image}
use Rattle.burst.specs.Burst.{n_of, t_of, transactions}
use Rattle.calls.specs.declared.Request.{Request}
use Rattle.calls.specs.declared.Request.TheVariants.{Update}
use Rattle.update.specs.Update.{writes_of}
use Rattle.history.specs.Ledger.{Told, told_of, entries, ledger, wants_on}
use Rattle.history.specs.Step.{list_in}
use Rattle.demand.specs.Events.{Event, call}
use Rattle.demand.specs.Demand.{SameWritable, AllAllowed}
use Rattle.capi.specs.Capi.{header_in, record_in, ListOutcome}
use Rattle.capi.specs.Calls.{open_call, update_call, chip_at_reset_call, chip_feed_call}
use Rattle.panel.specs.PanelStep.{Panel, panel_of, panel_step}

-- ---- Lists of calls

-- "each with any arguments and with bytes or a buffer of its own.", and with any n, t, stored and needed where it may store them. The numbers
-- are any, so those that a uint32_t holds are among them.
pub record PanelCall : Type 0 where
  pub request : Request
  pub lent : List ℕ
  pub n : ℕ
  pub t : ℕ
  pub stored : ℕ
  pub needed : ℕ

-- "The first gets the record of an accepted Open," and a chip of the same member, bus and pins at reset values: what lp586x_open and
-- lp586x_chip_at_reset leave in the two pieces of memory
abbrev pub panel_start : ℕ → ℕ → ℕ → Panel → Panel
panel_start m b p memory = panel_of (open_call memory.host m b p).bytes (chip_at_reset_call memory.chip m b p).bytes

-- accepted: both answer 0
pub record PanelOpened (m b p : ℕ) (memory : Panel) : Type 0 where
  pub record_opened : (open_call memory.host m b p).answer ≡ 0
  pub chip_opened : (chip_at_reset_call memory.chip m b p).answer ≡ 0

-- "each next one the record the last one returned, refused or not; nobody else writes it."
abbrev pub panel_run : Panel → List PanelCall → Panel
panel_run w [] = w
panel_run w (c ∷ cs) = panel_run (panel_step w c.request c.lent c.n c.t c.stored c.needed).panel cs

-- the bytes of the record and of its chip after these calls
abbrev pub panel_after : ℕ → ℕ → ℕ → Panel → List PanelCall → Panel
panel_after m b p memory calls = panel_run (panel_start m b p memory) calls

-- the same call on a record by value
abbrev pub event_of : PanelCall → Event
event_of c = call (record { request = c.request; lent = c.lent })

-- What the ledger is told of a call on the panel w: "all their arguments but the record", and of its answer no more than whether it is 17
-- (Q-5 of document 02).
abbrev pub panel_tell : Panel → PanelCall → Told
panel_tell w c =
    told_of c.request c.lent
    (eqb (panel_step w c.request c.lent c.n c.t c.stored c.needed).answer (refusal_number Locked))

-- "the calls in order": of each next one on the panel that the last one left
abbrev pub panel_told : Panel → List PanelCall → List Told
panel_told w [] = []
panel_told w (c ∷ cs) = panel_tell w c ∷ panel_told (panel_step w c.request c.lent c.n c.t c.stored c.needed).panel cs

-- the ledger's bytes after these calls
abbrev pub panel_ledger : ℕ → ℕ → ℕ → Panel → List PanelCall → List ℕ
panel_ledger m b p memory calls = ledger m (panel_told (panel_start m b p memory) calls)

-- ---- Addresses and rivals

-- "Of a chip: member, bus, pins, 908 registers.": the header
abbrev pub registers_in : List ℕ → List ℕ
registers_in bytes = drop 3 bytes

-- "A rival is any other list that Feed takes, .. It is fed to the chip as that stood before the last Update, and counts if the
-- writable bytes are then as after that Update.": lp586x_chip_feed takes l with 0 on the chip's bytes as they stood `before`, l keeps to what
-- the record of then may write, and it leaves the writable bytes of the chip `after`.
pub record PanelRival (m b p : ℕ) (before after : Panel) (l : List ℕ) : Type 0 where
  pub taken : (chip_feed_call before.chip l).answer ≡ 0
  pub writes : AllAllowed b p (header_in before.host) (transactions l)
  pub leaves : SameWritable m (registers_in (chip_feed_call before.chip l).bytes) (registers_in after.chip)

-- ---- The claim

-- the list that a call wrote: the first 4 + 2n + t bytes of the buffer, with the n and t that it stored
abbrev pub list_of : ListOutcome → List ℕ
list_of u = list_in u.n u.t u.buffer

-- what an lp586x_update on the panel w answers and leaves
abbrev pub update_leaves : Panel → List ℕ → ℕ → ℕ → ListOutcome
update_leaves w buffer n t = update_call w.host buffer n t

-- The calls, of which the first gets the panel w, are those `before`, an Update with this buffer that answers 0, and those `behind` it.
pub record PanelUpdates (w : Panel) (calls before behind : List PanelCall) (buffer : List ℕ) (n t stored needed : ℕ) : Type 0 where
  pub calls_are : calls ≡ before ++ (record { request = Update; lent = buffer; n = n; t = t; stored = stored; needed = needed } ∷ behind)
  pub answers : (update_leaves (panel_run w before) buffer n t).answer ≡ 0

module _ (m b p : ℕ) where
  -- What is owed behind an Update that answered 0 and left u: `before` and `after` are the panels before and after it, and s is the
  -- ledger.
  pub record PanelOwed (s : List ℕ) (before after : Panel) (u : ListOutcome) : Type 0 where
    -- demand 3: "with chip enable wanted on, the chip holds in every writable register exactly what the ledger of accepted settings says"
    pub values : wants_on s ≡ true → SameWritable m (registers_in after.chip) s
    -- demand 3: "every rival list .. has at least as many bus bytes as the update reports."
    pub fewest : (l : List ℕ) → PanelRival m b p before after l → u.t ≤ t_of l
    -- "With equal bytes this takes the fewer writes."
    pub fewest_writes : (l : List ℕ) → PanelRival m b p before after l → t_of l ≡ u.t → u.n ≤ n_of l
    -- Its own list, of n transactions and t bus bytes, does what the rivals do: the least is reached.
    pub own : PanelRival m b p before after (list_of u)
    pub own_count : n_of (list_of u) ≡ u.n
    pub own_bytes : t_of (list_of u) ≡ u.t

  -- "Demand 3 is a single claim about the whole list, not one for each call." The first call gets the panel w, and the ledger then has
  -- the bytes s.
  pub record PanelDemand3 (s : List ℕ) (w : Panel) (calls : List PanelCall) : Type 0 where
    -- demand 3: "no update names an address outside the member's writable ones": no accepted Update, wherever it stands
    pub names : (before behind : List PanelCall) (buffer : List ℕ) (n t stored needed : ℕ) → PanelUpdates w calls before behind buffer n t stored needed →
        AllAllowed b p (header_in (panel_run w before).host) (transactions (list_of (update_leaves (panel_run w before) buffer n t)))
    -- demand 3: "and if the last call is an accepted update"
    pub last : (before : List PanelCall) (buffer : List ℕ) (n t stored needed : ℕ) → PanelUpdates w calls before [] buffer n t stored needed →
        PanelOwed (entries m s (panel_told w calls)) (panel_run w before) (panel_run w calls) (update_leaves (panel_run w before) buffer n t)
    -- Q-3 of document 02: "but the register values are owed once a chip wanted on is finished", whatever the last call was. "A chip is finished
    -- when its pending list is empty."
    pub finished : writes_of (record_in (panel_run w calls).host) ≡ [] → wants_on (entries m s (panel_told w calls)) ≡ true →
        SameWritable m (registers_in (panel_run w calls).chip) (entries m s (panel_told w calls))

-- for every list of calls after every lp586x_open and lp586x_chip_at_reset that answer 0; the ledger's bytes "begin at that member's
-- reset values."
abbrev pub PanelWholeLists : Type 0
PanelWholeLists =
    (m b p : ℕ) (memory : Panel) → PanelOpened m b p memory → (calls : List PanelCall) → PanelDemand3 m b p (reset_image m) (panel_start m b p memory) calls
