-- A round over sound records that stand at their places, with B in range, is accepted if its buffer has 4,684 bytes: four times what an
-- Update takes at most, 4 + 4 × (2 × 234 + 702).
-- Assumes nothing.
use Rattle.std.specs.Prelude.{◌≡◌, Bool, true, false, cond, not, ◌&&◌, ◌||◌, List, [], ◌∷◌, ℕ, ◌+◌, ◌-◌, ◌≤◌, ◌<◌, eqb}
use Rattle.std.proofs.Math.Path.{refl}
use Rattle.std.proofs.Common.{arith}
use borrow.Author.Tests.{eq-eqb, le-leb}
use Rattle.burst.specs.Burst.{Burst, bus_bytes}
use Rattle.plan.specs.Portion.{portion}
use Rattle.plan.proofs.PortionLaws.{portion_begins, begins_bytes}
use Rattle.host.specs.declared.Record.{Record}
use Rattle.host.specs.Record.{sound_of}
use Rattle.update.specs.Update.{listed, refused, writes_of}
use Rattle.update.specs.BoundLaws.{bus_most}
use Rattle.rounds.specs.Round.{bytes_all, share_of, left_over, deal, count_all, round_size, least_limit, most_limit, every_place, waiting, round_parts, present_sound, present_placed, round_answer, waitings}
use Rattle.rounds.proofs.ListLaws.{few_parts}
use Rattle.rounds.proofs.DealLaws.{every_true, parts_ready}

-- the length of a buffer that always suffices
abbrev pub round_most : ℕ
round_most = 4684

if_present : (x y : Bool) → (x ≡ true → y ≡ true) → (not x || y) ≡ true
if_present true y e = e refl
if_present false y e = refl

-- what is dealt out is no more than what waits
deal_waits : (share left : ℕ) (cs : List (List Burst)) → bytes_all (deal share left cs) ≤ bytes_all cs
unfolding deal
deal_waits share left [] = omega arith
deal_waits share left (c ∷ cs) =
    let room = bus_bytes (portion share c) + left in
    omega (arith, begins_bytes (portion room c) c (portion_begins room c), deal_waits share (room - bus_bytes (portion room c)) cs)

module _ (present : ℕ → Bool) (records : ℕ → Record) (sound : (k : ℕ) → k < 4 → present k ≡ true → sound_of (records k) ≡ true) (limit : ℕ) where
  waits : (k : ℕ) → k < 4 → bus_bytes (waiting present records k) ≤ 702
  waits k l = go (present k) (sound k l)
    where
      go : (x : Bool) → (x ≡ true → sound_of (records k) ≡ true) → bus_bytes (cond x (writes_of (records k)) []) ≤ 702
      go true e = bus_most (records k) (e refl)
      go false e = omega arith

  -- the list of a round has 4,684 bytes at most
  pub round_most_lem : round_size (round_parts present records limit) ≤ round_most
  round_most_lem =
      omega (
        arith,
        few_parts (round_parts present records limit) (parts_ready present records limit sound),
        deal_waits (share_of limit) (left_over limit (waitings present records)) (waitings present records),
        waits 0 (omega arith),
        waits 1 (omega arith),
        waits 2 (omega arith),
        waits 3 (omega arith),
      )

  module _ (bus : (k : ℕ) → k < 4 → present k ≡ true → (records k).header.bus ≡ 0)
      (pins : (k : ℕ) → k < 4 → present k ≡ true → (records k).header.pins ≡ k) where
    placed : (k : ℕ) → k < 4 → present_placed present records k ≡ true
    placed k l =
        if_present (present k) (eqb (records k).header.bus 0 && eqb (records k).header.pins k)
        (λ e. rw (eq-eqb (records k).header.bus 0 (bus k l e), eq-eqb (records k).header.pins k (pins k l e)) refl)

    -- so that a buffer of 4,684 bytes is never refused
    pub round_accepts : least_limit ≤ limit → limit ≤ most_limit → (size : ℕ) → round_most ≤ size →
        round_answer present records limit size ≡ listed (count_all (round_parts present records limit)) (bytes_all (round_parts present records limit))
    unfolding round_answer
    round_accepts lo hi size room =
        rw (
          every_true (present_sound present records) (λ k l. if_present (present k) (sound_of (records k)) (sound k l)),
          le-leb least_limit limit lo,
          le-leb limit most_limit hi,
          every_true (present_placed present records) placed,
          le-leb (round_size (round_parts present records limit)) size (omega (arith, round_most_lem)),
        ) refl
