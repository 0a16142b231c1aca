-- What is claimed of an update, for any chip that meets four laws. A chip model is put in by proving the laws of its own `hear`.
-- Assumes nothing.
use Rattle.std.specs.Prelude.{◌≡◌, ◌⊎◌, Bool, true, false, List, [], ◌∷◌, map, ℕ, ◌+◌, ◌≤◌, ◌<◌, length, get_or}
use Rattle.burst.specs.Burst.{Burst, bus_bytes}
use Rattle.plan.specs.Writes.{Good, AllGood}
use Rattle.plan.specs.Update.{value_at, Agree, on_by, seen, update_for, store_all, write_of, Images}

-- A chip: its states, their bytes, and what it makes of a transaction. The laws are asked of transactions to writable addresses.
pub record Machine (ok : ℕ → Bool) (n : ℕ) : Type 1 where
  pub State : Type 0
  pub byte : State → ℕ → ℕ
  pub hear : State → Burst → State
  -- only the named addresses change
  pub outside : (s : State) (b : Burst) → Good ok n (write_of b) → (a : ℕ) → ok a ≡ true →
      (a < b.start) ⊎ (b.start + length b.bytes ≤ a) → byte (hear s b) a ≡ byte s a
  -- in standby only 000h does
  pub standby : (s : State) (b : Burst) → Good ok n (write_of b) → on_by (byte s) ≡ false → (a : ℕ) → 0 < a → ok a ≡ true →
      byte (hear s b) a ≡ byte s a
  -- the chip's own soundness, which a transaction keeps
  pub Sound : State → Type 0
  pub keeps : (s : State) (b : Burst) → Good ok n (write_of b) → Sound s → Sound (hear s b)
  -- a data byte whose reserved bits are right (`Fit`) is stored, if the chip is on or the byte is for 000h
  pub Fit : ℕ → ℕ → Type 0
  pub stores : (s : State) (b : Burst) → Good ok n (write_of b) → Sound s → (i : ℕ) → i < length b.bytes →
      Fit (b.start + i) (get_or b.bytes i 0) → (on_by (byte s) ≡ true) ⊎ (b.start + i ≡ 0) →
      byte (hear s b) (b.start + i) ≡ get_or b.bytes i 0

module _ (ok : ℕ → Bool) (n : ℕ) (M : Machine ok n) where
  -- a list is heard transaction by transaction
  abbrev pub feed_by : M.State → List Burst → M.State
  feed_by s [] = s
  feed_by s (b ∷ bs) = feed_by (M.hear s b) bs

  module _ (settings image : List ℕ) (s : M.State) where
    -- What an update needs: the image has the chip's writable bytes, and the settings fit.
    pub record Ready : Type 0 where
      pub images : Images ok n settings image
      pub same : Agree ok n (value_at image) (M.byte s)
      pub sound : M.Sound s
      pub fit : (a : ℕ) → a < n → ok a ≡ true → M.Fit a (value_at settings a)

    -- the list that the host sends, by its image
    abbrev pub sent : List Burst
    sent = update_for ok n settings (seen (value_at settings) (value_at image))

    -- "A rival is any other list .. each data byte, heard or not, for a writable address", and "counts if the writable bytes are
    -- then as after that Update."
    pub record Rival (rival : List Burst) : Type 0 where
      pub allowed : AllGood ok n (map write_of rival)
      pub same : Agree ok n (M.byte (feed_by s rival)) (M.byte (feed_by s sent))

    -- The claims.
    pub record Best : Type 0 where
      -- every data byte of the update is for a writable address
      pub allowed : AllGood ok n (map write_of sent)
      -- settings that are on are then in the chip
      pub reached : on_by (value_at settings) ≡ true → Agree ok n (M.byte (feed_by s sent)) (value_at settings)
      -- the image with the data bytes at their addresses is again the chip
      pub follows : Agree ok n (value_at (store_all sent image)) (M.byte (feed_by s sent))
      -- no rival takes fewer bus bytes
      pub fewest : (rival : List Burst) → Rival rival → bus_bytes sent ≤ bus_bytes rival
      -- and none with as few has fewer transactions
      pub writes : (rival : List Burst) → Rival rival → bus_bytes rival ≡ bus_bytes sent → length sent ≤ length rival
