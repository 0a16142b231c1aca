-- The update's list: document 01, "Burst lists", Update. `ok a` says that an address is writable, and there are n addresses.
-- Assumes nothing.
use Rattle.std.specs.Prelude.{◌≡◌, Bool, true, false, List, [], ◌∷◌, ◌++◌, map, ℕ, zero, suc, ◌%◌, ◌≤◌, ◌<◌, eqb, length, get_or, take, drop}
use Rattle.std.proofs.lemmas.List.Edits.{sets}
use Rattle.burst.specs.Burst.{Burst}
use Rattle.plan.specs.Plan.{Mark, hole, clean, dirty, Write, plan}

-- the byte of an image at an address
abbrev pub value_at : List ℕ → ℕ → ℕ
value_at image a = get_or image a 0

-- the writable bytes of the two are the same
abbrev pub Agree : (ℕ → Bool) → ℕ → (ℕ → ℕ) → (ℕ → ℕ) → Type 0
Agree ok n f g = (a : ℕ) → a < n → ok a ≡ true → f a ≡ g a

-- ---- Marks

-- an address by whether it is writable, and whether it has the wanted byte
abbrev pub mark_at : Bool → Bool → Mark
mark_at false same = hole
mark_at true true = clean
mark_at true false = dirty

-- "Then the differing addresses from 001h up": 000h is written apart from the others. `same a` says that an address has the
-- wanted byte.
abbrev pub marks_for : (ℕ → Bool) → (ℕ → Bool) → ℕ → Mark
marks_for ok same zero = clean
marks_for ok same (suc a) = mark_at (ok (suc a)) (same (suc a))

-- every writable address differs
abbrev pub all_differ : (ℕ → Bool) → ℕ → Mark
all_differ ok a = marks_for ok (λ b. false) a

-- ---- What is known of the chip

-- "Settings or chip are on when bit 0 of 000h in their image is 1."
abbrev pub on_by : (ℕ → ℕ) → Bool
on_by f = eqb (f 0x000 % 2) 1

-- what the host knows of the chip
pub record View : Type 0 where
  -- it is on for certain
  pub sure : Bool
  -- it may be on
  pub perhaps : Bool
  -- an address has the wanted byte for certain
  pub same : ℕ → Bool

-- an address has the wanted byte
abbrev pub same_at : (ℕ → ℕ) → (ℕ → ℕ) → ℕ → Bool
same_at want have a = eqb (have a) (want a)

-- "the chip as the host believes it": it has the bytes `have`, so that it may be on only where it is
abbrev pub seen : (ℕ → ℕ) → (ℕ → ℕ) → View
seen want have = record { sure = on_by have; perhaps = on_by have; same = same_at want have }

-- ---- The list

-- a write of the plan, "sent again with their settings"
abbrev pub data_of : List ℕ → Write → Burst
data_of settings w = record { start = w.start; bytes = take w.len (drop w.start settings) }

-- one byte to 000h
abbrev pub enable_write : ℕ → Burst
enable_write v = record { start = 0x000; bytes = v ∷ [] }

-- "if the chip is off, 01h to 000h alone comes first."
abbrev pub enable : Bool → List Burst
enable true = []
enable false = enable_write 0x01 ∷ []

-- By whether the settings are on, whether the chip is for certain, and whether it may be. "Settings off, chip on: one write of 00h
-- to 000h. Both off: nothing." "Settings on:" the enabling write, then the plan's.
abbrev pub update_by : Bool → Bool → Bool → List Burst → List Burst
update_by false sure true bs = enable_write 0x00 ∷ []
update_by false sure false bs = []
update_by true sure perhaps bs = enable sure ++ bs

-- the list that an update sends to a chip of which this is known
unfoldable pub update_for : (ℕ → Bool) → ℕ → List ℕ → View → List Burst
update_for ok n settings v =
    update_by (on_by (value_at settings)) v.sure v.perhaps (map (data_of settings) (plan (marks_for ok v.same) n))

-- "the chip image takes the data bytes at their addresses."
abbrev pub store_all : List Burst → List ℕ → List ℕ
store_all [] image = image
store_all (b ∷ bs) image = store_all bs (sets image b.start b.bytes)

-- ---- What it costs

-- a transaction as a write: its address and how many data bytes it has
abbrev pub write_of : Burst → Write
write_of b = record { start = b.start; len = length b.bytes }

-- what the enabling write costs, where a write costs h beside its data; nothing if the chip is on
abbrev pub enable_cost : ℕ → Bool → ℕ
enable_cost h true = 0
enable_cost h false = suc h

-- ---- What it needs

-- there is an address 000h, it is writable, and the settings have a byte for each address
pub record Layout (ok : ℕ → Bool) (n : ℕ) (settings : List ℕ) : Type 0 where
  pub some : 0 < n
  pub enable_ok : ok 0 ≡ true
  pub size : length settings ≡ n

-- and the chip image too, and both have 0 or 1 at 000h
pub record Images (ok : ℕ → Bool) (n : ℕ) (settings image : List ℕ) : Type 0 where
  pub layout : Layout ok n settings
  pub size : length image ≡ n
  pub want_enable : value_at settings 0 ≤ 1
  pub have_enable : value_at image 0 ≤ 1
