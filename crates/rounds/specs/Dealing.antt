-- What the functions promise that deal B out and write the parts, on four records that are lent.
-- Assumes nothing.
use Rattle.std.specs.Prelude.{◌≡◌, Bool, true, cond, not, ◌&&◌, ◌||◌, List, [], ◌∷◌, map, ℕ, ◌+◌, ◌*◌, ◌≤◌, ◌<◌, leb, eqb, length, get_or, sum, Result, Ok, Err}
use Rattle.std.proofs.lemmas.List.Edits.{sets}
use Rattle.map.specs.declared.refusals.Refusal.{Refusal}
use Rattle.map.specs.Refusals.{Answer}
use Rattle.map.specs.declared.refusals.Refusal.TheVariants.{Unsound, RoundLimit, NotItsPlace}
use Rattle.burst.specs.Burst.{Burst, bus_bytes, sizes_bytes, joined, transaction_of}
use Rattle.plan.specs.Portion.{portion}
use Rattle.plan.specs.Update.{store_all}
use Rattle.host.specs.declared.Header.{Header}
use Rattle.host.specs.declared.Record.{Record}
use Rattle.host.specs.declared.RecordRef.{RecordRef}
use Rattle.host.specs.Record.{record_of, record_behind}
use Rattle.host.proofs.SoundLaws.{Sound}
use Rattle.update.specs.Update.{listed, refused, writes_of}
use Rattle.rounds.specs.declared.dealing.Dealt.{Dealt}
use Rattle.rounds.specs.Round.{count_all, part_at, least_limit, most_limit, every_place, waiting, waitings, round_list, round_parts, round_answer, round_record, present_sound, present_placed, record_at}

-- ---- Four records that are lent

-- the record of a place
abbrev pub records_of : List RecordRef → ℕ → Record
records_of records = record_at (map record_behind records)

-- ---- Refusals

-- 16 does not ask for the images
abbrev pub header_placed : Bool → Header → ℕ → Bool
header_placed present h k = not present || (eqb h.bus 0 && eqb h.pins k)

-- those that need no list: 14, 15 and 16 in this order
unfoldable pub round_refusal : (ℕ → Bool) → (ℕ → Record) → ℕ → Answer
round_refusal present records limit =
    cond (every_place (present_sound present records))
    (cond (leb least_limit limit && leb limit most_limit)
    (cond (every_place (present_placed present records)) (Ok (tt {0})) (Err NotItsPlace)) (Err RoundLimit)) (Err Unsound)

-- ---- Sizes

-- what waits at a place
abbrev pub waiting_of : Bool → Record → List Burst
waiting_of present r = cond present (writes_of r) []

-- a record that is sound if it is present
abbrev pub Waits : Bool → Record → Type 0
Waits present r = present ≡ true → Sound r

abbrev pub AllWait : (ℕ → Bool) → (ℕ → Record) → Type 0
AllWait present records = (k : ℕ) → k < 4 → Waits (present k) (records k)

-- the bus bytes of the portions within the shares
abbrev pub first_bytes : ℕ → (ℕ → Bool) → (ℕ → Record) → List ℕ
first_bytes share present records = map (λ c. bus_bytes (portion share c)) (waitings present records)

-- the number of the round's writes, and the bus bytes of the final portions, which are t together
pub record DealtAre (limit : ℕ) (present : ℕ → Bool) (records : ℕ → Record) (x : Dealt) : Type 0 where
  pub writes_are : x.writes ≡ count_all (round_parts present records limit)
  pub bytes_are : x.bytes ≡ map bus_bytes (round_parts present records limit)
  pub few : 3 * x.writes ≤ sum x.bytes
  pub most : sum x.bytes ≤ limit

-- the present records stand at their places
pub record AllPlaced (present : ℕ → Bool) (records : ℕ → Record) : Type 0 where
  pub bus : (k : ℕ) → k < 4 → present k ≡ true → (records k).header.bus ≡ 0
  pub pins : (k : ℕ) → k < 4 → present k ≡ true → (records k).header.pins ≡ k

-- how a round is dealt out whose list fits the buffer
pub record Planned (limit size : ℕ) (present : ℕ → Bool) (records : ℕ → Record) (x : Dealt) : Type 0 where
  pub waits : AllWait present records
  pub placed : AllPlaced present records
  pub dealt : DealtAre limit present records x
  pub most : limit ≤ 4096
  pub answer : round_answer present records limit size ≡ listed x.writes (sum x.bytes)

-- or what refuses it
abbrev pub Refusing : ℕ → ℕ → (ℕ → Bool) → (ℕ → Record) → Refusal → Type 0
Refusing limit size present records refusal = round_answer present records limit size ≡ refused refusal

-- ---- Writing

-- a part of a list: the lengths of its transactions from the one of this index on, and their bytes from `at` on
abbrev pub put_part : List ℕ → ℕ → ℕ → List (List ℕ) → List ℕ
put_part buffer index at xs = sets (sets buffer (4 + 2 * index) (sizes_bytes (map length xs))) at (joined xs)

-- the transactions of a record's part within some room
abbrev pub part_transactions : Record → ℕ → List (List ℕ)
part_transactions r room = map (transaction_of r.header.bus r.header.pins) (portion room (writes_of r))

-- a copy of the chip image of a place
abbrev pub image_at : List (List ℕ) → ℕ → List ℕ
image_at images k = get_or images k []

-- the list of a round stands in the buffer, and the images have taken their parts
pub record RoundPut (parts : List (List Burst)) (buffer after : List ℕ) (old new : List (List ℕ)) : Type 0 where
  pub written : after ≡ sets buffer 0 (round_list parts)
  pub taken : (k : ℕ) → k < 4 → image_at new k ≡ store_all (part_at parts k) (image_at old k)

-- copies of the chip images become what the round leaves of the records
abbrev pub ImagesAfter : (ℕ → Bool) → (ℕ → Record) → ℕ → ℕ → List (List ℕ) → List (List ℕ) → Type 0
ImagesAfter present records limit size old new =
    (k : ℕ) → k < 4 → image_at old k ≡ (records k).image → image_at new k ≡ (round_record present records limit size k).image

-- the chip images of four records
abbrev pub CopiesOf : List Record → List (List ℕ) → Type 0
CopiesOf records images = (k : ℕ) → k < 4 → image_at images k ≡ (record_at records k).image

-- and other ones in their place
abbrev pub with_images : List Record → List (List ℕ) → List Record
with_images records images =
    map (λ k. record_of (record_at records k).header (record_at records k).settings (image_at images k)) (0 ∷ 1 ∷ 2 ∷ 3 ∷ [])
