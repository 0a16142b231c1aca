-- What lp586x_transaction finds: of a list of good sizes each of its n transactions. Where it refuses, it stores nothing.
-- Assumes nothing.
use Rattle.std.specs.Prelude.{Result, Ok, Err, ◌≡◌, true, List, [], ℕ, ◌+◌, ◌≤◌, ◌<◌, length, get_or, take, drop}
use Rattle.std.proofs.Math.Path.{refl}
use Rattle.std.proofs.Common.{arith}
use borrow.Author.Tests.{lt-ltb}
use Rattle.burst.specs.declared.places.Place.{Place}
use Rattle.burst.specs.declared.places.PlaceError.{PlaceError}
use Rattle.burst.specs.declared.places.PlaceError.TheVariants.{BadSizes, NoIndex}
use Rattle.burst.specs.Burst.{at, n_of, transactions, sizes_good, place_of}
use Rattle.burst.specs.PlaceLaws.{transaction_stands, placed}
use Rattle.capi.specs.Capi.{place_numbers, place_outcome}
use Rattle.capi.specs.Calls.{transaction_call}

-- an answer of 0 is a place, with the two numbers that are stored
zero_at_lem : (place : Result Place PlaceError) (offset size : ℕ) → (place_outcome place offset size).answer ≡ 0 →
    place ≡ at (place_outcome place offset size).offset (place_outcome place offset size).size
unfolding place_numbers
zero_at_lem (Ok p) offset size e = refl
zero_at_lem (Err BadSizes) offset size e = absurd (omega arith)
zero_at_lem (Err NoIndex) offset size e = absurd (omega arith)

module _ (list : List ℕ) (index offset size : ℕ) where
  -- the list has this transaction, and its bytes are those that stand at the place
  pub record Found : Type 0 where
    pub good : sizes_good list ≡ true
    pub below : index < n_of list
    pub bytes : take (transaction_call list index offset size).size (drop (transaction_call list index offset size).offset list)
        ≡ get_or (transactions list) index []
    pub inside : (transaction_call list index offset size).offset + (transaction_call list index offset size).size ≤ length list
    pub least : 3 ≤ (transaction_call list index offset size).size

  -- where it answers 0
  pub transaction_found : (transaction_call list index offset size).answer ≡ 0 → Found
  transaction_found z =
      let call = transaction_call list index offset size in
      let p = placed list index call.offset call.size (zero_at_lem (place_of list index) offset size z) in
      let s = transaction_stands list index p.good p.below in
      record {
        good = p.good;
        below = p.below;
        bytes = rw (p.offset_is, p.length_is) at s.bytes;
        inside = omega (arith, s.inside, p.offset_is, p.length_is);
        least = omega (arith, s.least, p.length_is);
      }

  -- and it does so for each of the n
  pub transaction_answers : sizes_good list ≡ true → index < n_of list → (transaction_call list index offset size).answer ≡ 0
  unfolding place_of place_numbers
  transaction_answers e h = rw (e, lt-ltb index (n_of list) h) refl

  -- "A refused call changes no byte that was lent to it"
  pub record Left : Type 0 where
    pub offset_stays : (transaction_call list index offset size).offset ≡ offset
    pub size_stays : (transaction_call list index offset size).size ≡ size

  pub transaction_refused : ((transaction_call list index offset size).answer ≡ 0 → ⊥) → Left
  unfolding place_numbers
  transaction_refused = go (place_of list index) refl
    where
      go : (place : Result Place PlaceError) → place_of list index ≡ place → ((place_outcome place offset size).answer ≡ 0 → ⊥) → Left
      go (Ok p) e z = absurd (z refl)
      go (Err BadSizes) e z = record { offset_stays = rw e refl; size_stays = rw e refl }
      go (Err NoIndex) e z = record { offset_stays = rw e refl; size_stays = rw e refl }
