-- Demand 3 for four places is met: `bus_whole_lists`.
-- Assumes nothing.
use Rattle.std.specs.Prelude.{◌≡◌, refl, Bool, true, false, cond, List, [], ◌∷◌, ◌++◌, map, ℕ, suc, ◌+◌, ◌*◌, ◌<◌, length, get_or, take, drop}
use Rattle.std.proofs.Common.{sym, ap, ◌∙◌, subst, add-zero, arith, eq-eqb}
use Rattle.std.proofs.Math.Seq.{take-append_seam}
use Rattle.map.specs.Refusals.{opens}
use Rattle.map.specs.Map.{writable_of}
use Rattle.map.specs.Images.{reset_image}
use Rattle.burst.specs.Burst.{Burst, n_of, t_of, transactions, transaction_of}
use Rattle.plan.specs.Lists.{All, all_append}
use Rattle.plan.specs.Portion.{portion, Begins}
use Rattle.plan.proofs.PortionLaws.{portion_begins, portion_empty}
use Rattle.calls.specs.declared.Request.TheVariants.{Update}
use Rattle.host.specs.declared.Header.{Header}
use Rattle.host.specs.Record.{header_of, may_write}
use Rattle.update.specs.Update.{ListAnswer, listed, list_numbers, is_listed, over, writes_of}
use Rattle.rounds.specs.Round.{bytes_all, count_all, pinned, share_of, round_list, part_at, round_parts, round_answer, round_buffer, round_room}
use Rattle.rounds.proofs.ListLaws.{AllReady, round_length, round_n, round_t, round_transactions}
use Rattle.rounds.proofs.DealLaws.{Takes, round_takes, part_is, four_parts, round_bytes, round_share, parts_ready}
use Rattle.history.specs.declared.World.{World}
use Rattle.history.specs.declared.CallAnswer as answers
use Rattle.history.specs.Ledger.{entries}
use Rattle.history.proofs.LedgerLaws.{enters_nothing, entries_append}
use Rattle.history.specs.Step.{list_in, step_of}
use Rattle.demand.specs.Events.{tell}
use Rattle.demand.specs.Demand.{AllAllowed, UpdateAnswers, update_list, Owed}
use Rattle.demand.proofs.RivalLaws.{all_own}
use Rattle.demand.proofs.WorldLaws.{begins_sendable, may_write_after}
use Rattle.demand.proofs.Theorem.{list_of, update_owes, finished_values, whole_lists}
use Rattle.bus.specs.Bus.{hosts_of, accepts, BusCall, round, bus_step, bus_answer}
use Rattle.bus_demand.specs.BusLists.{bus_run, bus_tell, bus_told, starts, panels_after, ledger_at}
use Rattle.bus_demand.specs.Places.{Opened, place_events}
use Rattle.bus_demand.proofs.BridgeLaws.{AllHold, bus_holds, all_opened, each_place}
use Rattle.bus_demand.specs.BusDemand.{update_at, UpdatesAt, list_of_round, ForPlace, RoundOwed, BusWholeLists}

-- ---- Lists of bus calls

pub bus_append : (xs ys : List BusCall) (w : ℕ → World) (k : ℕ) → bus_run w (xs ++ ys) k ≡ bus_run (bus_run w xs) ys k
bus_append [] ys w k = refl
bus_append (x ∷ xs) ys w k = bus_append xs ys (bus_step w x) k

-- the ledger of a place, of calls behind others
pub bus_ledger_append : (m k : ℕ) (xs ys : List BusCall) (s : List ℕ) (w : ℕ → World) →
    entries m s (bus_told k w (xs ++ ys)) ≡ entries m (entries m s (bus_told k w xs)) (bus_told k (bus_run w xs) ys)
bus_ledger_append m k [] ys s w = refl
bus_ledger_append m k (x ∷ xs) ys s w =
    entries_append m (bus_tell k w x) (bus_told k (bus_step w x) (xs ++ ys)) s
    ∙ bus_ledger_append m k xs ys (entries m s (bus_tell k w x)) (bus_step w x)
    ∙ ap (λ (y : List ℕ). entries m y (bus_told k (bus_run (bus_step w x) xs) ys)) (sym (entries_append m (bus_tell k w x) (bus_told k (bus_step w x) xs) s))

-- ---- The list of a round

all_pinned : (P : List ℕ → Type 0) (q : ℕ) (parts : List (List Burst)) →
    ((i : ℕ) → i < length parts → All P (map (transaction_of 0 (q + i)) (part_at parts i))) → All P (pinned q parts)
all_pinned P q [] h = tt
all_pinned P q (bs ∷ parts) h =
    all_append P (map (transaction_of 0 q) bs) (pinned (suc q) parts)
    (subst (λ (j : ℕ). All P (map (transaction_of 0 j) bs)) (add-zero q) (h 0 (omega arith)))
    (all_pinned P (suc q) parts
    (λ i l. subst (λ (j : ℕ). All P (map (transaction_of 0 j) (part_at parts i))) (omega arith) (h (suc i) (omega arith))))

-- what an accepted round left in its buffer is its list
round_list_lem : (w : ℕ → World) (present : ℕ → Bool) (limit : ℕ) (buffer : List ℕ) →
    accepts present limit (length buffer) w ≡ true → (n t : ℕ) → n ≡ count_all (round_parts present (hosts_of w) limit) → t ≡ bytes_all (round_parts present (hosts_of w) limit) →
    list_of_round w present limit buffer n t ≡ round_list (round_parts present (hosts_of w) limit)
unfolding round_buffer
round_list_lem w present limit buffer a n t e f =
    let list : List ℕ = round_list (round_parts present (hosts_of w) limit) in
    let size : 4 + 2 * n + t ≡ length list = omega (arith, e, f, round_length (round_parts present (hosts_of w) limit)) in
    ap (λ (x : Bool). list_in n t (cond x (over list buffer) buffer)) a
    ∙ ap (λ (x : ℕ). take x (over list buffer)) size
    ∙ take-append_seam list (drop (length list) buffer)

module _ (m b p : ℕ → ℕ) (o : (k : ℕ) → k < 4 → opens (m k) (b k) (p k) ≡ true) where
  -- ---- An accepted round on worlds for which the invariant holds

  module _ (s : ℕ → List ℕ) (w : ℕ → World) (h : AllHold m b p s w) (present : ℕ → Bool) (limit : ℕ) (size : ℕ)
      (q : Takes present (hosts_of w) limit size) where
    abbrev parts : List (List Burst)
    parts = round_parts present (hosts_of w) limit

    each_for : (k : ℕ) → k < 4 → present k ≡ true → (xs : List (List ℕ)) → AllAllowed (b k) (p k) (w k).host.header xs → All (ForPlace b p w present) xs
    each_for k l e [] a = tt
    each_for k l e (x ∷ xs) a = (record { place = k; is_place = l; is_present = e; allowed = a.0 }, each_for k l e xs a.1)

    -- the transactions of a present place
    part_for : (k : ℕ) → k < 4 → present k ≡ true → (xs : List Burst) → Begins xs (writes_of (w k).host) →
        All (ForPlace b p w present) (map (transaction_of 0 k) xs)
    part_for k l e xs g =
        let bus : b k ≡ 0 = sym (ap (λ (x : World). x.host.header.bus) (h k l).is) ∙ q.bus k l e in
        let pins : p k ≡ k = sym (ap (λ (x : World). x.host.header.pins) (h k l).is) ∙ q.pins k l e in
        let good = (begins_sendable (m k) (b k) (p k) (o k l) (s k) (w k) (h k l) xs g).good in
        let header : Header = header_of (m k) (b k) (p k) (h k l).marks in
        let own : AllAllowed (b k) (p k) header (map (transaction_of (b k) (p k)) xs) = all_own (b k) (p k) header xs (omega arith) good in
        each_for k l e (map (transaction_of 0 k) xs)
        (subst (λ (x : Header). AllAllowed (b k) (p k) x (map (transaction_of 0 k) xs)) (sym (ap (λ (x : World). x.host.header) (h k l).is))
        (subst (λ (y : ℕ). AllAllowed (b k) (p k) header (map (transaction_of 0 y) xs)) pins
        (subst (λ (x : ℕ). AllAllowed (b k) (p k) header (map (transaction_of x (p k)) xs)) bus own)))

    -- those of any place
    place_for : (k : ℕ) → k < 4 → All (ForPlace b p w present) (map (transaction_of 0 k) (part_at parts k))
    place_for k l =
        subst (λ (xs : List Burst). All (ForPlace b p w present) (map (transaction_of 0 k) xs)) (sym (part_is present (hosts_of w) limit k l))
        (go (present k) refl)
      where
        room : ℕ
        room = round_room present (hosts_of w) limit k

        go : (x : Bool) → present k ≡ x →
            All (ForPlace b p w present) (map (transaction_of 0 k) (portion (round_room present (hosts_of w) limit k) (cond x (writes_of (w k).host) [])))
        go true e = part_for k l e (portion room (writes_of (w k).host)) (portion_begins room (writes_of (w k).host))
        go false e = subst (λ (xs : List Burst). All (ForPlace b p w present) (map (transaction_of 0 k) xs)) (sym (portion_empty room)) tt

    parts_for : All (ForPlace b p w present) (pinned 0 parts)
    parts_for =
        all_pinned (ForPlace b p w present) 0 parts
        (λ i l. subst (λ (j : ℕ). All (ForPlace b p w present) (map (transaction_of 0 j) (part_at parts i))) (omega arith)
        (place_for i (omega (arith, four_parts present (hosts_of w) limit))))

    share_first : (k : ℕ) → k < 4 → present k ≡ true → Begins (portion (share_of limit) (writes_of (w k).host)) (part_at parts k)
    share_first k l e =
        subst (λ (x : Bool). Begins (portion (share_of limit) (cond x (writes_of (w k).host) [])) (part_at parts k)) e
        (round_share present (hosts_of w) limit k l)

  -- what is owed of it
  pub round_owes : (s : ℕ → List ℕ) (w : ℕ → World) → AllHold m b p s w → (present : ℕ → Bool) (limit : ℕ) (buffer : List ℕ) (n t : ℕ) →
      bus_answer w (round present limit buffer) ≡ answers.TheVariants.List (listed n t) →
      RoundOwed b p w present limit (list_of_round w present limit buffer n t) n t
  round_owes s w h present limit buffer n t e =
      let answer : round_answer present (hosts_of w) limit (length buffer) ≡ listed n t = ap list_of e in
      let accepted : accepts present limit (length buffer) w ≡ true = ap is_listed answer in
      let q : Takes present (hosts_of w) limit (length buffer) = round_takes present (hosts_of w) limit (length buffer) accepted in
      let parts : List (List Burst) = round_parts present (hosts_of w) limit in
      let n-same : n ≡ count_all parts = ap (λ (x : ListAnswer). get_or (list_numbers x) 1 0) (sym answer ∙ q.answer) in
      let t_same : t ≡ bytes_all parts = ap (λ (x : ListAnswer). get_or (list_numbers x) 2 0) (sym answer ∙ q.answer) in
      let list_same : list_of_round w present limit buffer n t ≡ round_list parts = round_list_lem w present limit buffer accepted n t n-same t_same in
      let ready : AllReady parts = parts_ready present (hosts_of w) limit q.sound in
      let small : bytes_all parts < 65536 = omega (arith, q.most, round_bytes present (hosts_of w) limit) in
      record {
        names =
            subst (All (ForPlace b p w present)) (sym (ap transactions list_same ∙ round_transactions parts ready small))
            (parts_for s w h present limit (length buffer) q);
        list_is = list_same;
        n_is = ap n_of list_same ∙ round_n parts ready small ∙ sym n-same;
        t_is = ap t_of list_same ∙ round_t parts ready small ∙ sym t_same;
        most = omega (arith, t_same, round_bytes present (hosts_of w) limit);
        share = share_first s w h present limit (length buffer) q;
      }

  -- ---- An Update at a place

  owed : (k : ℕ) → k < 4 → (before : List BusCall) (buffer : List ℕ) (n t stored : ℕ) → UpdateAnswers (panels_after m b p before k) buffer n t stored →
      Owed (m k) (b k) (p k) (ledger_at m b p k before) (panels_after m b p before k) (step_of (panels_after m b p before k) Update buffer).world
      (update_list (panels_after m b p before k) buffer n t) n t
  owed k l before buffer n t stored =
      update_owes (m k) (b k) (p k) (o k l) (ledger_at m b p k before) (panels_after m b p before k) (bus_holds m b p o before k l) buffer n t stored

  module _ (k : ℕ) (l : k < 4) (calls before : List BusCall) (buffer : List ℕ) (n t stored : ℕ)
      (u : UpdatesAt m b p k calls before [] buffer n t stored) where
    world_last : panels_after m b p calls k ≡ (step_of (panels_after m b p before k) Update buffer).world
    world_last =
        ap (λ (xs : List BusCall). panels_after m b p xs k) u.calls_are
        ∙ bus_append before (update_at k buffer ∷ []) (starts m b p) k
        ∙ rw (eq-eqb k k refl) refl

    ledger_stays : ledger_at m b p k calls ≡ ledger_at m b p k before
    ledger_stays =
        ap (λ (xs : List BusCall). ledger_at m b p k xs) u.calls_are
        ∙ bus_ledger_append (m k) k before (update_at k buffer ∷ []) (reset_image (m k)) (starts m b p)
        ∙ rw (eq-eqb k k refl)
        (enters_nothing (m k) (ledger_at m b p k before) (tell (panels_after m b p before k) (record { request = Update; lent = buffer })) refl)

    last_owed : Owed (m k) (b k) (p k) (ledger_at m b p k calls) (panels_after m b p before k) (panels_after m b p calls k)
        (update_list (panels_after m b p before k) buffer n t) n t
    last_owed =
        subst (λ (x : World). Owed (m k) (b k) (p k) (ledger_at m b p k calls) (panels_after m b p before k) x (update_list (panels_after m b p before k) buffer n t) n t)
        (sym world_last)
        (subst (λ (s : List ℕ). Owed (m k) (b k) (p k) s (panels_after m b p before k) (step_of (panels_after m b p before k) Update buffer).world
        (update_list (panels_after m b p before k) buffer n t) n t) (sym ledger_stays)
        (owed k l before buffer n t stored u.answers))

-- Demand 3, for four places
pub bus_whole_lists : BusWholeLists
bus_whole_lists m b p opened calls =
    let o : (k : ℕ) → k < 4 → opens (m k) (b k) (p k) ≡ true = all_opened m b p opened in
    record {
      each = λ k l. whole_lists (m k) (b k) (p k) (opened k l) (place_events m b p k calls);
      names = λ k l before behind buffer n t stored u. (owed m b p o k l before buffer n t stored u.answers).own.writes;
      rounds = λ before behind present limit buffer n t u.
          round_owes m b p o (λ k. ledger_at m b p k before) (panels_after m b p before) (bus_holds m b p o before) present limit buffer n t u.answers;
      last = λ k l before buffer n t stored u. last_owed m b p o k l calls before buffer n t stored u;
      finished = λ k l.
          finished_values (m k) (b k) (p k) (o k l) (ledger_at m b p k calls) (panels_after m b p calls k) (bus_holds m b p o calls k l);
    }

-- The addresses that may be written are at each place always among its member's writable ones.
pub bus_may_write : (m b p : ℕ → ℕ) → Opened m b p → (calls : List BusCall) (k : ℕ) → k < 4 → (a : ℕ) →
    may_write (panels_after m b p calls k).host.header a ≡ true → writable_of (m k) a ≡ true
bus_may_write m b p opened calls k l a e =
    may_write_after (m k) (b k) (p k) (all_opened m b p opened k l) (place_events m b p k calls) a
    (ap (λ (x : World). may_write x.host.header a) (sym (each_place m b p opened calls k l).world) ∙ e)
