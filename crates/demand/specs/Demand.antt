-- Demand 3, a claim about whole lists of calls, and of parts among them: document 01, "The ledger and whole lists", and Q-3 and Q-5 of
-- document 02. m, b and p are the member, bus and pins that Open was given. Quotations are of document 01, but for those that are marked as
-- the wording of demand 3 itself, of Q-3 or of Q-5.
-- Assumes nothing.
use Rattle.std.specs.Prelude.{◌≡◌, true, List, [], ◌∷◌, ◌++◌, ℕ, ◌+◌, ◌≤◌, ◌<◌, length, get_or}
use Rattle.map.specs.Refusals.{accepted}
use Rattle.map.specs.Map.{writable_of}
use Rattle.map.specs.Images.{reset_image}
use Rattle.burst.specs.Burst.{burst_of, n_of, t_of, transactions, encode}
use Rattle.calls.specs.declared.Request.TheVariants.{Update}
use Rattle.host.specs.declared.Header.{Header}
use Rattle.host.specs.Record.{may_write, open_of}
use Rattle.update.specs.Update.{listed, writes_of}
use Rattle.chip.specs.declared.decode.Transaction.TheVariants.{Write}
use Rattle.chip.specs.Chip.{decode_of, feed_of}
use Rattle.history.specs.declared.World.{World}
use Rattle.history.specs.declared.CallAnswer as answers
use Rattle.history.specs.Ledger.{entries, wants_on}
use Rattle.history.specs.Step.{list_in, step_of}
use Rattle.history.specs.History.{start}
use Rattle.demand.specs.Events.{Event, call, part, part_of, run, told}

-- ---- Addresses and rivals

-- "Demand 3 compares its writable bytes."
abbrev pub SameWritable : ℕ → List ℕ → List ℕ → Type 0
SameWritable m x y = (a : ℕ) → writable_of m a ≡ true → get_or x a 0 ≡ get_or y a 0

-- A transaction x is "a write to this chip and each data byte, heard or not, for a writable address", one that may be written by the
-- record's header h: Q-5, "rivals in the byte comparison keep off locked addresses as well" (`may_writable` of host: these are among the
-- member's writable ones, and all of them where the record is not locked, `free_write`). `burst_of` has the address of the head and the data
-- behind it.
pub record Allowed (b p : ℕ) (h : Header) (x : List ℕ) : Type 0 where
  pub write : decode_of b p (get_or x 0 0) (get_or x 1 0) ≡ Write (burst_of b x).start
  pub may : (i : ℕ) → i < length (burst_of b x).bytes → may_write h ((burst_of b x).start + i) ≡ true

-- so is each transaction of a list: "An update names the address of each data byte in its list"
abbrev pub AllAllowed : ℕ → ℕ → Header → List (List ℕ) → Type 0
AllAllowed b p h [] = Unit
AllAllowed b p h (x ∷ xs) = Allowed b p h x × AllAllowed b p h xs

-- "A rival is any other list that Feed takes, .. It is fed to the chip as that stood before the last Update, and counts if the
-- writable bytes are then as after that Update.": l, fed to the chip as it stood `before`, keeps to what the record of then may write,
-- and leaves the writable bytes of the chip `after`.
pub record Rival (m b p : ℕ) (before after : World) (l : List ℕ) : Type 0 where
  pub taken : accepted (feed_of before.chip l).answer ≡ true
  pub writes : AllAllowed b p before.host.header (transactions l)
  pub leaves : SameWritable m (feed_of before.chip l).chip.registers after.chip.registers

-- ---- The claim

-- An Update on the world w, with this buffer, is accepted and answers n, t and how many image bytes it stored;
abbrev pub UpdateAnswers : World → List ℕ → ℕ → ℕ → ℕ → Type 0
UpdateAnswers w buffer n t stored = (step_of w Update buffer).answer ≡ answers.TheVariants.Update (listed n t) stored

-- and this is the list that it wrote.
abbrev pub update_list : World → List ℕ → ℕ → ℕ → List ℕ
update_list w buffer n t = list_in n t (step_of w Update buffer).lent

-- The events, of which the first gets the world w, are those `before`, an Update with this buffer that answers n, t and stored, and those
-- `behind` it.
pub record Updates (w : World) (events before behind : List Event) (buffer : List ℕ) (n t stored : ℕ) : Type 0 where
  pub events_are : events ≡ before ++ (call (record { request = Update; lent = buffer }) ∷ behind)
  pub answers : UpdateAnswers (run w before) buffer n t stored

module _ (m b p : ℕ) where
  -- What is owed behind an accepted Update that wrote `list` and answered n and t: `before` and `after` are the worlds before and after
  -- it, and s is the ledger.
  pub record Owed (s : List ℕ) (before after : World) (list : List ℕ) (n t : ℕ) : Type 0 where
    -- demand 3: "with chip enable wanted on, the chip holds in every writable register exactly what the ledger of accepted settings says",
    -- and Q-5: "demand 3's register values stay owed at these two", locked or not
    pub values : wants_on s ≡ true → SameWritable m after.chip.registers s
    -- demand 3: "every rival list .. has at least as many bus bytes as the update reports."
    pub fewest : (l : List ℕ) → Rival m b p before after l → t ≤ t_of l
    -- "With equal bytes this takes the fewer writes."
    pub fewest_writes : (l : List ℕ) → Rival m b p before after l → t_of l ≡ t → n ≤ n_of l
    -- Its own list, of n transactions and t bus bytes, does what the rivals do: the least is reached.
    pub own : Rival m b p before after list
    pub own_count : n_of list ≡ n
    pub own_bytes : t_of list ≡ t

  -- "Demand 3 is a single claim about the whole list, not one for each call." The first event gets the world w, and the ledger then has
  -- the bytes s.
  pub record Demand3 (s : List ℕ) (w : World) (events : List Event) : Type 0 where
    -- demand 3: "no update names an address outside the member's writable ones": no accepted Update, wherever it stands
    pub names : (before behind : List Event) (buffer : List ℕ) (n t stored : ℕ) → Updates w events before behind buffer n t stored →
        AllAllowed b p (run w before).host.header (transactions (update_list (run w before) buffer n t))
    -- and no part, wherever it stands: its list is the one that the chip hears, since the record keeps the bus and pins that Open was given
    -- (`header_after` of WorldLaws)
    pub part_names : (before behind : List Event) (room : ℕ) → events ≡ before ++ (part room ∷ behind) →
        AllAllowed b p (run w before).host.header (transactions (encode b p (part_of (run w before) room)))
    -- demand 3: "and if the last call is an accepted update"; Q-3: "the fewest-bytes rule then covers plain updates only"
    pub last : (before : List Event) (buffer : List ℕ) (n t stored : ℕ) → Updates w events before [] buffer n t stored →
        Owed (entries m s (told w events)) (run w before) (run w events) (update_list (run w before) buffer n t) n t
    -- Q-3: "but the register values are owed once a chip wanted on is finished", whatever the last event was. "A chip is finished when its
    -- pending list is empty."
    pub finished : writes_of (run w events).host ≡ [] → wants_on (entries m s (told w events)) ≡ true →
        SameWritable m (run w events).chip.registers (entries m s (told w events))

-- for every list of events after every Open that is accepted; the ledger's bytes "begin at that member's reset values."
abbrev pub WholeLists : Type 0
WholeLists = (m b p : ℕ) → accepted (open_of m b p).answer ≡ true → (events : List Event) → Demand3 m b p (reset_image m) (start m b p) events
