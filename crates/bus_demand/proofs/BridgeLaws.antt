-- Each place is what its own events give: `each_place`. The chips of the bus are fed the list of a round, so that this needs what holds
-- between a record and its chip (`Holds` of history) at every place.
-- Assumes nothing.
use Rattle.std.specs.Prelude.{◌≡◌, refl, Bool, true, false, cond, ◌&&◌, List, [], ◌∷◌, ◌++◌, ℕ, ◌≤◌, ◌<◌, eqb, length}
use Rattle.std.proofs.Common.{sym, ap, ap₂, ◌∙◌, subst, arith, eq-eqb, eqb-true}
use Rattle.map.specs.Refusals.{opens}
use Rattle.map.specs.Images.{reset_image}
use Rattle.burst.specs.Burst.{Burst, encode}
use Rattle.plan.specs.Portion.{portion}
use Rattle.plan.proofs.PortionLaws.{portion_empty}
use Rattle.update.specs.Update.{writes_of}
use Rattle.chip.specs.declared.Chip.{Chip}
use Rattle.chip.specs.declared.Fed.{Fed}
use Rattle.chip.specs.Chip.{chip_of, feed_of}
use Rattle.chip.specs.ChipLaws.{Sound}
use Rattle.rounds.specs.Round.{bytes_all, round_list, part_at, takes, round_parts, round_record, round_room}
use Rattle.rounds.proofs.ListLaws.{AllReady}
use Rattle.rounds.proofs.DealLaws.{Takes, round_takes, part_is, four_parts, round_bytes, parts_ready}
use Rattle.history.specs.declared.World.{World}
use Rattle.history.specs.Ledger.{Told, entries}
use Rattle.history.specs.Step.{step_of}
use Rattle.demand.specs.Events.{Event, call, part, sent_to, part_step, run, tell, told}
use Rattle.demand.proofs.WorldLaws.{world_of, Holds, start_holds, chip_sound, run_holds, run_append, told_append}
use Rattle.demand.proofs.Theorem.{opened}
use Rattle.bus.specs.Bus.{hosts_of, on_bus, accepts, round_world, BusCall, plain, round, bus_step}
use Rattle.bus_demand.specs.BusLists.{bus_run, bus_tell, bus_told, starts, panels_after, ledger_at}
use Rattle.bus_demand.specs.HearLaws.{feed_round, feed_none}
use Rattle.bus_demand.specs.Places.{events_of, events_at, Opened, EachPlace}

-- ---- One place and the list of a round

-- a place after a round, by whether the round was accepted and whether the place was present
abbrev after_round : Bool → Bool → List (List Burst) → ℕ → World → World
after_round accepted present parts k v = record {
  host = cond (accepted && present) (takes v.host (part_at parts k)) v.host;
  chip = cond (accepted && on_bus v.chip k) (feed_of v.chip (round_list parts)).chip v.chip;
}

round_after : (w : ℕ → World) (present : ℕ → Bool) (limit size k : ℕ) →
    round_world present limit size w k ≡ after_round (accepts present limit size w) (present k) (round_parts present (hosts_of w) limit) k (w k)
unfolding round_record
round_after w present limit size k = refl

module _ (parts : List (List Burst)) (r : AllReady parts) (t : bytes_all parts < 65536) (four : length parts ≤ 4) (m k : ℕ) (l : k < 4) where
  -- the list of the round is to the chip of the place what the list of its own part is,
  fed_own : (b p : ℕ) (rs : List ℕ) → b ≡ 0 → p ≡ k → Sound (chip_of m b p rs) →
      (feed_of (chip_of m b p rs) (round_list parts)).chip ≡ (feed_of (chip_of m b p rs) (encode b p (part_at parts k))).chip
  fed_own b p rs e f =
      subst (λ (x : ℕ). Sound (chip_of m x p rs) → (feed_of (chip_of m x p rs) (round_list parts)).chip ≡ (feed_of (chip_of m x p rs) (encode x p (part_at parts k))).chip) (sym e)
      (subst (λ (y : ℕ). Sound (chip_of m 0 y rs) → (feed_of (chip_of m 0 y rs) (round_list parts)).chip ≡ (feed_of (chip_of m 0 y rs) (encode 0 y (part_at parts k))).chip) (sym f)
      (λ s. ap (λ (x : Fed). x.chip) (feed_round parts r t four m k rs l s)))

  -- and leaves it as it is where that part is empty
  fed_none : (b p : ℕ) (rs : List ℕ) → b ≡ 0 → p ≡ k → Sound (chip_of m b p rs) → part_at parts k ≡ [] →
      (feed_of (chip_of m b p rs) (round_list parts)).chip ≡ chip_of m b p rs
  fed_none b p rs e f =
      subst (λ (x : ℕ). Sound (chip_of m x p rs) → part_at parts k ≡ [] → (feed_of (chip_of m x p rs) (round_list parts)).chip ≡ chip_of m x p rs) (sym e)
      (subst (λ (y : ℕ). Sound (chip_of m 0 y rs) → part_at parts k ≡ [] → (feed_of (chip_of m 0 y rs) (round_list parts)).chip ≡ chip_of m 0 y rs) (sym f)
      (feed_none parts r t four m k rs l))

  module _ (b p : ℕ) (o : opens m b p ≡ true) (s : List ℕ) (v : World) (h : Holds m b p s v) where
    abbrev chip : Chip
    chip = chip_of m b p h.registers

    abbrev place : World
    place = world_of m b p h.marks s h.image h.registers

    -- a present place on the bus is sent its part,
    present_after : b ≡ 0 → p ≡ k → after_round true true parts k v ≡ sent_to v (part_at parts k)
    present_after e f =
        subst (λ (x : World). after_round true true parts k x ≡ sent_to x (part_at parts k)) (sym h.is)
        (ap (λ (c : Chip). record { host = takes place.host (part_at parts k); chip = c })
        (rw (eq-eqb b 0 e, eq-eqb p k f) (fed_own b p h.registers e f (chip_sound m b p o s v h))))

    -- an absent one stays as it is, on the bus or not,
    absent_after : part_at parts k ≡ [] → after_round true false parts k v ≡ v
    absent_after e =
        subst (λ (x : World). after_round true false parts k x ≡ x) (sym h.is)
        (ap (λ (c : Chip). record { host = place.host; chip = c }) (go (eqb b 0) refl (eqb p k) refl))
      where
        go : (x : Bool) → eqb b 0 ≡ x → (y : Bool) → eqb p k ≡ y → cond (x && y) (feed_of chip (round_list parts)).chip chip ≡ chip
        go true f true g = fed_none b p h.registers (eqb-true b 0 f) (eqb-true p k g) (chip_sound m b p o s v h) e
        go true f false g = refl
        go false f y g = refl

-- and so does every place of a refused round
refused_after : (m b p : ℕ) (s : List ℕ) (v : World) → Holds m b p s v → (x : Bool) (parts : List (List Burst)) (k : ℕ) → after_round false x parts k v ≡ v
refused_after m b p s v h x parts k = subst (λ (y : World). after_round false x parts k y ≡ y) (sym h.is) refl

-- ---- Four places

-- the invariant, at every place
abbrev pub AllHold : (ℕ → ℕ) → (ℕ → ℕ) → (ℕ → ℕ) → (ℕ → List ℕ) → (ℕ → World) → Type 0
AllHold m b p s w = (k : ℕ) → k < 4 → Holds (m k) (b k) (p k) (s k) (w k)

-- a place in terms of its own events, whatever the worlds before the calls
pub record Projected (k : ℕ) (w : ℕ → World) (calls : List BusCall) : Type 0 where
  pub world : bus_run w calls k ≡ run (w k) (events_at k w calls)
  pub told_is : bus_told k w calls ≡ told (w k) (events_at k w calls)

-- a ledger is told what it would be told of the events
tell_is : (k : ℕ) (w : ℕ → World) (c : BusCall) → bus_tell k w c ≡ told (w k) (events_of k w c)
tell_is k w (plain j c) = go (eqb k j)
  where
    go : (x : Bool) → cond x (tell (w k) c ∷ []) [] ≡ told (w k) (cond x (call c ∷ []) [])
    go true = refl
    go false = refl
tell_is k w (round present limit buffer) = go (accepts present limit (length buffer) w && present k)
  where
    go : (x : Bool) → [] ≡ told (w k) (cond x (part (round_room present (hosts_of w) limit k) ∷ []) [])
    go true = refl
    go false = refl

module _ (m b p : ℕ → ℕ) (o : (k : ℕ) → k < 4 → opens (m k) (b k) (p k) ≡ true) where
  -- what a bus call does to a place is what its events there do
  module _ (s : ℕ → List ℕ) (w : ℕ → World) (h : AllHold m b p s w) where
    round_is : (present : ℕ → Bool) (limit : ℕ) (buffer : List ℕ) (k : ℕ) → k < 4 →
        round_world present limit (length buffer) w k ≡ run (w k) (events_of k w (round present limit buffer))
    round_is present limit buffer k l =
        round_after w present limit (length buffer) k ∙ go (accepts present limit (length buffer) w) refl (present k) refl
      where
        parts : List (List Burst)
        parts = round_parts present (hosts_of w) limit

        room : ℕ
        room = round_room present (hosts_of w) limit k

        header_bus : (w k).host.header.bus ≡ b k
        header_bus = ap (λ (x : World). x.host.header.bus) (h k l).is

        header_pins : (w k).host.header.pins ≡ p k
        header_pins = ap (λ (x : World). x.host.header.pins) (h k l).is

        ready : Takes present (hosts_of w) limit (length buffer) → AllReady parts
        ready q = parts_ready present (hosts_of w) limit q.sound

        small : Takes present (hosts_of w) limit (length buffer) → bytes_all parts < 65536
        small q = omega (arith, q.most, round_bytes present (hosts_of w) limit)

        four : length parts ≤ 4
        four = omega (arith, four_parts present (hosts_of w) limit)

        part_by : (x : Bool) → present k ≡ x → part_at parts k ≡ portion room (cond x (writes_of (w k).host) [])
        part_by x e = part_is present (hosts_of w) limit k l ∙ ap (λ (y : Bool). portion room (cond y (writes_of (w k).host) [])) e

        sent : Takes present (hosts_of w) limit (length buffer) → present k ≡ true → after_round true true parts k (w k) ≡ part_step (w k) room
        sent q e =
            present_after parts (ready q) (small q) four (m k) k l (b k) (p k) (o k l) (s k) (w k) (h k l)
            (sym header_bus ∙ q.bus k l e) (sym header_pins ∙ q.pins k l e)
            ∙ ap (sent_to (w k)) (part_by true e)

        not_sent : Takes present (hosts_of w) limit (length buffer) → present k ≡ false → after_round true false parts k (w k) ≡ w k
        not_sent q e =
            absent_after parts (ready q) (small q) four (m k) k l (b k) (p k) (o k l) (s k) (w k) (h k l) (part_by false e ∙ portion_empty room)

        go : (a : Bool) → accepts present limit (length buffer) w ≡ a → (x : Bool) → present k ≡ x →
            after_round a x parts k (w k) ≡ run (w k) (cond (a && x) (part (round_room present (hosts_of w) limit k) ∷ []) [])
        go true e true f = sent (round_takes present (hosts_of w) limit (length buffer) e) f
        go true e false f = not_sent (round_takes present (hosts_of w) limit (length buffer) e) f
        go false e x f = refused_after (m k) (b k) (p k) (s k) (w k) (h k l) x parts k

    pub call_is : (c : BusCall) (k : ℕ) → k < 4 → bus_step w c k ≡ run (w k) (events_of k w c)
    call_is (plain j c) k l = go (eqb k j)
      where
        go : (x : Bool) → cond x (step_of (w k) c.request c.lent).world (w k) ≡ run (w k) (cond x (call c ∷ []) [])
        go true = refl
        go false = refl
    call_is (round present limit buffer) k l = round_is present limit buffer k l

    -- so the invariant holds after it
    pub call_holds : (c : BusCall) → AllHold m b p (λ k. entries (m k) (s k) (told (w k) (events_of k w c))) (bus_step w c)
    call_holds c k l =
        subst (Holds (m k) (b k) (p k) (entries (m k) (s k) (told (w k) (events_of k w c)))) (sym (call_is c k l))
        (run_holds (m k) (b k) (p k) (o k l) (events_of k w c) (s k) (w k) (h k l))

  -- any list of bus calls
  pub projected : (calls : List BusCall) (s : ℕ → List ℕ) (w : ℕ → World) → AllHold m b p s w → (k : ℕ) → k < 4 → Projected k w calls
  projected [] s w h k l = record { world = refl; told_is = refl }
  projected (c ∷ cs) s w h k l =
      let next : Projected k (bus_step w c) cs =
      projected cs (λ j. entries (m j) (s j) (told (w j) (events_of j w c))) (bus_step w c) (call_holds s w h c) k l in
      let here : bus_step w c k ≡ run (w k) (events_of k w c) = call_is s w h c k l in
      let later : List Event = events_at k (bus_step w c) cs in
      record {
        world = next.world ∙ ap (λ (x : World). run x later) here ∙ sym (run_append (events_of k w c) later (w k));
        told_is =
            ap₂ ◌++◌ (tell_is k w c) (next.told_is ∙ ap (λ (x : World). told x later) here)
            ∙ sym (told_append (events_of k w c) later (w k));
      }

  pub calls_hold : (calls : List BusCall) (s : ℕ → List ℕ) (w : ℕ → World) → AllHold m b p s w →
      AllHold m b p (λ k. entries (m k) (s k) (bus_told k w calls)) (bus_run w calls)
  calls_hold calls s w h k l =
      let q : Projected k w calls = projected calls s w h k l in
      subst (λ (x : World). Holds (m k) (b k) (p k) (entries (m k) (s k) (bus_told k w calls)) x) (sym q.world)
      (subst (λ (x : List Told). Holds (m k) (b k) (p k) (entries (m k) (s k) x) (run (w k) (events_at k w calls))) (sym q.told_is)
      (run_holds (m k) (b k) (p k) (o k l) (events_at k w calls) (s k) (w k) (h k l)))

  pub starts_hold : AllHold m b p (λ k. reset_image (m k)) (starts m b p)
  starts_hold k l = start_holds (m k) (b k) (p k) (o k l)

  -- the invariant after any list of bus calls, with the ledger of each place
  pub bus_holds : (calls : List BusCall) → AllHold m b p (λ k. ledger_at m b p k calls) (panels_after m b p calls)
  bus_holds calls = calls_hold calls (λ k. reset_image (m k)) (starts m b p) starts_hold

pub all_opened : (m b p : ℕ → ℕ) → Opened m b p → (k : ℕ) → k < 4 → opens (m k) (b k) (p k) ≡ true
all_opened m b p o k l = opened (m k) (b k) (p k) (o k l)

-- The bridge
pub each_place : EachPlace
each_place m b p o calls k l =
    let q : Projected k (starts m b p) calls =
    projected m b p (all_opened m b p o) calls (λ j. reset_image (m j)) (starts m b p) (starts_hold m b p (all_opened m b p o)) k l in
    record { world = q.world; told_is = q.told_is; ledger = ap (entries (m k) (reset_image (m k))) q.told_is }
