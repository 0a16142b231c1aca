-- Laws of a round: how B is dealt out, what an accepted round says of the present records, and that its list can be sent.
-- Assumes nothing.
use Rattle.std.specs.Prelude.{◌≡◌, Bool, true, false, cond, not, ◌&&◌, ◌||◌, List, [], ◌∷◌, map, ℕ, zero, suc, ◌+◌, ◌-◌, ◌≤◌, ◌<◌, eqb, length, get_or, sum}
use Rattle.std.proofs.Math.Path.{refl}
use Rattle.std.proofs.Common.{sym, ap, ◌∙◌, subst, arith, eqb-true, leb-true}
use Rattle.std.proofs.lemmas.Bool.{false≢true}
use Rattle.std.proofs.Math.Dec.{leb}
use Rattle.map.specs.declared.refusals.Refusal.TheVariants.{BufferShort, Unsound, RoundLimit, NotItsPlace}
use Rattle.burst.specs.Burst.{Burst, bus_bytes}
use Rattle.burst.specs.BurstLaws.{AllData, AllNamed, and_left, and_right}
use Rattle.plan.specs.Lists.{All}
use Rattle.plan.specs.Portion.{portion, Begins}
use Rattle.plan.proofs.PortionLaws.{portion_empty, portion_bytes, portion_begins, portion_more, begins_good}
use Rattle.host.specs.declared.Record.{Record}
use Rattle.host.specs.Record.{sound_of, may_write}
use Rattle.update.specs.Update.{ListAnswer, listed, refused, is_listed, writes_of}
use Rattle.update.specs.BoundLaws.{good_data, good_named, names_writable}
use Rattle.rounds.specs.Round.{bytes_all, share_of, left_over, deal, room_at, count_all, round_size, part_at, least_limit, most_limit, every_place, waiting, waitings, round_room, round_parts, present_sound, present_placed, round_answer, at_place}
use Rattle.rounds.proofs.ListLaws.{AllReady}

-- ---- Dealing out

-- the final portion of a place, within its room
pub deal_at : (share left : ℕ) (cs : List (List Burst)) (k : ℕ) → part_at (deal share left cs) k ≡ portion (room_at share left cs k) (part_at cs k)
unfolding deal room_at
deal_at share left [] k = sym (portion_empty 0)
deal_at share left (c ∷ cs) zero = refl
deal_at share left (c ∷ cs) (suc k) =
    let room = bus_bytes (portion share c) + left in
    deal_at share (room - bus_bytes (portion room c)) cs k

-- the room holds the portion within the share
pub room_least : (share left : ℕ) (cs : List (List Burst)) (k : ℕ) → k < length cs → bus_bytes (portion share (part_at cs k)) ≤ room_at share left cs k
unfolding room_at
room_least share left [] k h = absurd (omega arith)
room_least share left (c ∷ cs) zero h = omega arith
room_least share left (c ∷ cs) (suc k) h =
    let room = bus_bytes (portion share c) + left in
    room_least share (room - bus_bytes (portion room c)) cs k (omega arith)

pub deal_bytes : (share left : ℕ) (cs : List (List Burst)) → bytes_all (deal share left cs) ≤ bytes_all (map (portion share) cs) + left
unfolding deal
deal_bytes share left [] = omega arith
deal_bytes share left (c ∷ cs) =
    let room = bus_bytes (portion share c) + left in
    omega (arith, portion_bytes room c, deal_bytes share (room - bus_bytes (portion room c)) cs)

pub deal_length : (share left : ℕ) (cs : List (List Burst)) → length (deal share left cs) ≡ length cs
unfolding deal
deal_length share left [] = refl
deal_length share left (c ∷ cs) =
    let room = bus_bytes (portion share c) + left in
    ap suc (deal_length share (room - bus_bytes (portion room c)) cs)

-- a list every portion of which can be sent
abbrev pub Portionable : List Burst → Type 0
Portionable c = (room : ℕ) → AllData (portion room c) × AllNamed (portion room c)

pub deal_ready : (share left : ℕ) (cs : List (List Burst)) → All Portionable cs → AllReady (deal share left cs)
unfolding deal
deal_ready share left [] h = tt
deal_ready share left (c ∷ cs) h =
    let room = bus_bytes (portion share c) + left in
    ((h.0 room).0, (h.0 room).1, deal_ready share (room - bus_bytes (portion room c)) cs h.1)

-- ---- Pending lists

pub update_portionable : (r : Record) → sound_of r ≡ true → Portionable (writes_of r)
update_portionable r e room =
    let good =
    begins_good (may_write r.header) 908 (portion room (writes_of r)) (writes_of r) (portion_begins room (writes_of r)) (names_writable r e) in
    (good_data (may_write r.header) (portion room (writes_of r)) good, good_named (may_write r.header) (portion room (writes_of r)) good)

none_portionable : Portionable []
none_portionable room = subst (λ (xs : List Burst). AllData xs × AllNamed xs) (sym (portion_empty room)) (tt, tt)

-- ---- Four places

-- behind the third place stands the last
pub at_last : {A : Type 0} (none : A) (xs : List A) (k : ℕ) → 3 ≤ k → at_place none xs k ≡ get_or xs 3 none
at_last none xs k h = ap (λ (j : ℕ). get_or xs j none) (omega arith)

pub every_at : (f : ℕ → Bool) → every_place f ≡ true → (k : ℕ) → k < 4 → f k ≡ true
every_at f e zero h = and_left (f 0) (f 1 && (f 2 && f 3)) e
every_at f e (suc zero) h = and_left (f 1) (f 2 && f 3) (and_right (f 0) (f 1 && (f 2 && f 3)) e)
every_at f e (suc (suc zero)) h =
    and_left (f 2) (f 3) (and_right (f 1) (f 2 && f 3) (and_right (f 0) (f 1 && (f 2 && f 3)) e))
every_at f e (suc (suc (suc zero))) h =
    and_right (f 2) (f 3) (and_right (f 1) (f 2 && f 3) (and_right (f 0) (f 1 && (f 2 && f 3)) e))
every_at f e (suc (suc (suc (suc k)))) h = absurd (omega arith)

pub every_true : (f : ℕ → Bool) → ((k : ℕ) → k < 4 → f k ≡ true) → every_place f ≡ true
every_true f e = rw (e 0 (omega arith), e 1 (omega arith), e 2 (omega arith), e 3 (omega arith)) refl

pub every_false : (f : ℕ → Bool) (k : ℕ) → k < 4 → f k ≡ false → every_place f ≡ false
every_false f k h e = go (every_place f) refl
  where
    go : (b : Bool) → every_place f ≡ b → b ≡ false
    go true t = absurd (false≢true (sym e ∙ every_at f t k h))
    go false t = refl

implied : (a b : Bool) → (not a || b) ≡ true → a ≡ true → b ≡ true
implied true b e t = e
implied false b e t = absurd (false≢true t)

module _ (present : ℕ → Bool) (records : ℕ → Record) where
  pub waiting_at : (k : ℕ) → k < 4 → part_at (waitings present records) k ≡ waiting present records k
  waiting_at zero h = refl
  waiting_at (suc zero) h = refl
  waiting_at (suc (suc zero)) h = refl
  waiting_at (suc (suc (suc zero))) h = refl
  waiting_at (suc (suc (suc (suc k)))) h = absurd (omega arith)

  -- its part is its portion within that room
  pub part_is : (limit k : ℕ) → k < 4 → part_at (round_parts present records limit) k ≡ portion (round_room present records limit k) (waiting present records k)
  part_is limit k h = deal_at (share_of limit) (left_over limit (waitings present records)) (waitings present records) k ∙ ap (portion (round_room present records limit k)) (waiting_at k h)

  pub room_share : (limit k : ℕ) → k < 4 → bus_bytes (portion (share_of limit) (waiting present records k)) ≤ round_room present records limit k
  room_share limit k h =
      subst (λ (c : List Burst). bus_bytes (portion (share_of limit) c) ≤ round_room present records limit k) (waiting_at k h)
      (room_least (share_of limit) (left_over limit (waitings present records)) (waitings present records) k (omega arith))

  pub four_parts : (limit : ℕ) → length (round_parts present records limit) ≡ 4
  four_parts limit = deal_length (share_of limit) (left_over limit (waitings present records)) (waitings present records)

  -- "No round sends more than B."
  pub round_bytes : (limit : ℕ) → bytes_all (round_parts present records limit) ≤ limit
  round_bytes limit =
      omega (
        arith,
        deal_bytes (share_of limit) (left_over limit (waitings present records)) (waitings present records),
        portion_bytes (share_of limit) (waiting present records 0),
        portion_bytes (share_of limit) (waiting present records 1),
        portion_bytes (share_of limit) (waiting present records 2),
        portion_bytes (share_of limit) (waiting present records 3),
      )

  -- "Each sends at least its portion within its share."
  pub round_share : (limit k : ℕ) → k < 4 →
      Begins (portion (share_of limit) (waiting present records k)) (part_at (round_parts present records limit) k)
  round_share limit k h =
      subst (Begins (portion (share_of limit) (waiting present records k))) (sym (part_is limit k h))
      (portion_more (share_of limit) (round_room present records limit k) (waiting present records k) (room_share limit k h))

  -- ---- what an accepted round says

  pub record Takes (limit size : ℕ) : Type 0 where
    pub sound : (k : ℕ) → k < 4 → present k ≡ true → sound_of (records k) ≡ true
    pub least : least_limit ≤ limit
    pub most : limit ≤ most_limit
    pub bus : (k : ℕ) → k < 4 → present k ≡ true → (records k).header.bus ≡ 0
    pub pins : (k : ℕ) → k < 4 → present k ≡ true → (records k).header.pins ≡ k
    pub room : round_size (round_parts present records limit) ≤ size
    pub answer : round_answer present records limit size ≡ listed (count_all (round_parts present records limit)) (bytes_all (round_parts present records limit))

  pub round_takes : (limit size : ℕ) → is_listed (round_answer present records limit size) ≡ true → Takes limit size
  unfolding round_answer
  round_takes limit size e =
      go (every_place (present_sound present records)) refl (leb least_limit limit && leb limit most_limit) refl
      (every_place (present_placed present records)) refl (leb (round_size (round_parts present records limit)) size) refl e refl
    where
      list : ListAnswer
      list = listed (count_all (round_parts present records limit)) (bytes_all (round_parts present records limit))

      by : Bool → Bool → Bool → Bool → ListAnswer
      by a b c d = cond a (cond b (cond c (cond d list (refused BufferShort)) (refused NotItsPlace)) (refused RoundLimit)) (refused Unsound)

      go : (a : Bool) → every_place (present_sound present records) ≡ a → (b : Bool) → (leb least_limit limit && leb limit most_limit) ≡ b →
          (c : Bool) → every_place (present_placed present records) ≡ c → (d : Bool) → leb (round_size (round_parts present records limit)) size ≡ d →
          is_listed (by a b c d) ≡ true →
          round_answer present records limit size ≡ by a b c d → Takes limit size
      go true p true q true r true u e f =
          let placed : (k : ℕ) → k < 4 → present k ≡ true → (eqb (records k).header.bus 0 && eqb (records k).header.pins k) ≡ true =
          λ k h t. implied (present k) (eqb (records k).header.bus 0 && eqb (records k).header.pins k) (every_at (present_placed present records) r k h) t in
          record {
            sound = λ k h t. implied (present k) (sound_of (records k)) (every_at (present_sound present records) p k h) t;
            least = leb-true least_limit limit (and_left (leb least_limit limit) (leb limit most_limit) q);
            most = leb-true limit most_limit (and_right (leb least_limit limit) (leb limit most_limit) q);
            bus = λ k h t. eqb-true (records k).header.bus 0 (and_left (eqb (records k).header.bus 0) (eqb (records k).header.pins k) (placed k h t));
            pins = λ k h t. eqb-true (records k).header.pins k (and_right (eqb (records k).header.bus 0) (eqb (records k).header.pins k) (placed k h t));
            room = leb-true (round_size (round_parts present records limit)) size u;
            answer = f;
          }
      go true p true q true r false u e f = absurd (false≢true e)
      go true p true q false r d u e f = absurd (false≢true e)
      go true p false q c r d u e f = absurd (false≢true e)
      go false p b q c r d u e f = absurd (false≢true e)

  -- every part can be sent
  pub parts_ready : (limit : ℕ) → ((k : ℕ) → k < 4 → present k ≡ true → sound_of (records k) ≡ true) → AllReady (round_parts present records limit)
  parts_ready limit sound =
      deal_ready (share_of limit) (left_over limit (waitings present records)) (waitings present records) (at 0 (omega arith), (at 1 (omega arith), (at 2 (omega arith), (at 3 (omega arith), tt))))
    where
      at : (k : ℕ) → k < 4 → Portionable (waiting present records k)
      at k h = go (present k) (sound k h)
        where
          go : (x : Bool) → (x ≡ true → sound_of (records k) ≡ true) → Portionable (cond x (writes_of (records k)) [])
          go true s = update_portionable (records k) (s refl)
          go false s = none_portionable
