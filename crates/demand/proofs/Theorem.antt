-- Demand 3 is met: `whole_lists`. And an Update at once after an accepted one has nothing to send: `second_update`.
-- Assumes nothing.
use Rattle.std.specs.Prelude.{◌≡◌, Bool, cond, ℕ, ◌-◌, ◌*◌, ◌≤◌, leb, length, Ok}
use Rattle.std.proofs.Math.Path.{refl, sym, ap}
use Rattle.std.proofs.Common.{ap₂, ◌∙◌, subst, arith}
use Rattle.std.proofs.Math.Bool.{true, false}
use mathlib.Core.List.{List, [], ◌∷◌, map}
use Rattle.map.specs.declared.refusals.Refusal.TheVariants.{Unsound}
use Rattle.map.specs.Refusals.{accepted, opens}
use Rattle.map.specs.RefusalLaws.{opens_pins}
use Rattle.map.specs.ByteLaws.{writable_below}
use Rattle.map.specs.Images.{reset_image}
use Rattle.burst.specs.Burst.{Burst, n_of, t_of, transactions, burst_of, bus_bytes, encode}
use Rattle.burst.specs.BurstLaws.{Sendable, encode_transactions, encode_n, encode_t}
use Rattle.plan.specs.Update.{value_at}
use Rattle.plan.specs.Machine.{Best}
use Rattle.plan.proofs.MachineLaws.{machine_best}
use Rattle.plan.proofs.Again.{update_again}
use Rattle.plan.proofs.PortionLaws.{portion_begins}
use Rattle.calls.specs.declared.Request.TheVariants.{Update}
use Rattle.host.specs.declared.Header.{Header}
use Rattle.host.specs.declared.Record.{Record}
use Rattle.host.specs.Record.{header_of, sound_of, lock_keeps, may_write, open_of}
use Rattle.host.specs.RecordLaws.{may_writable, writable_may, not_locked}
use Rattle.host.specs.LockLaws.{kept_same}
use Rattle.update.specs.Update.{ListAnswer, listed, short, refused, over, send_answer, send_of, writes_of, updating, update_of}
use Rattle.update.specs.SendLaws.{Answered, answered, list_is, host_is, answer_of}
use Rattle.update.specs.BoundLaws.{update_sendable, names_writable}
use Rattle.update.proofs.StoredLaws.{stored_is}
use Rattle.chip.specs.declared.Chip.{Chip}
use Rattle.chip.specs.declared.Fed.{Fed}
use Rattle.chip.specs.Chip.{chip_of, feed_of}
use Rattle.chip.specs.FeedLaws.{hear_all, Taken, feed_taken, feed_writes}
use Rattle.history.specs.declared.World.{World}
use Rattle.history.specs.declared.CallAnswer as answers
use Rattle.history.specs.Ledger.{entries, wants_on}
use Rattle.history.proofs.LedgerLaws.{enters_nothing}
use Rattle.history.specs.Step.{list_in, fed_by, step_of}
use Rattle.history.specs.History.{start}
use Rattle.demand.specs.Events.{Event, call, part_of, run, world_after, tell, told}
use Rattle.demand.specs.Demand.{SameWritable, AllAllowed, Rival, UpdateAnswers, update_list, Updates, Owed, Demand3, WholeLists}
use Rattle.demand.specs.MachineLaws.{machine, hear_all_is, hear_all_outside}
use Rattle.demand.proofs.WorldLaws.{front, world_of, Holds, PartSendable, start_holds, is_so, ready, update_fed, begins_sendable, run_holds, run_append, ledger_append}
use Rattle.demand.proofs.RivalLaws.{all_writes, all_good, all_own}

-- the list's answer of a call that answered one
abbrev pub list_of : answers.CallAnswer → ListAnswer
list_of (answers.TheVariants.Setting numbers) = refused Unsound
list_of (answers.TheVariants.List answer) = answer
list_of (answers.TheVariants.Update answer stored) = answer

-- and what an update stored
abbrev stored_of : answers.CallAnswer → ℕ
stored_of (answers.TheVariants.Setting numbers) = 0
stored_of (answers.TheVariants.List answer) = 0
stored_of (answers.TheVariants.Update answer stored) = stored

-- ---- an Update of a world for which the invariant holds

module _ (m b p : ℕ) (o : opens m b p ≡ true) (s : List ℕ) (w : World) (h : Holds m b p s w) where
  abbrev world : World
  world = world_of m b p h.marks s h.image h.registers

  abbrev header : Header
  header = header_of m b p h.marks

  abbrev host : Record
  host = world.host

  abbrev writes : List Burst
  writes = writes_of host

  sound : sound_of host ≡ true
  sound = is_so m b p o s w h

  best : Best (may_write header) 908 (machine header) s h.image h.registers
  best = machine_best (may_write header) 908 (machine header) s h.image h.registers (ready m b p o s w h)

  -- the chip after it
  abbrev after : List ℕ
  after = hear_all m h.registers writes

  fed : feed_of world.chip (encode b p writes) ≡ record { answer = Ok tt; chip = chip_of m b p after }
  fed = update_fed m b p o s w h

  -- settings that are on are in the chip: where they may be sent by the update, and at a locked address already before it
  values : wants_on s ≡ true → SameWritable m after s
  unfolding writes_of
  values e a k = go (lock_keeps header a) refl
    where
      go : (c : Bool) → lock_keeps header a ≡ c → value_at after a ≡ value_at s a
      go false q =
          ap (λ (rs : List ℕ). value_at rs a) (hear_all_is header h.registers writes)
          ∙ best.reached e a (writable_below m a k) (writable_may header a k q)
      go true q =
          hear_all_outside header h.registers writes (names_writable host sound) a (not_locked header a q)
          ∙ sym (h.same a (writable_below m a k) k)
          ∙ sym (kept_same header s h.image h.marks_fit a q)

  -- and so they are in a chip with nothing pending
  finished_here : writes ≡ [] → wants_on s ≡ true → SameWritable m h.registers s
  finished_here e on a k = ap (λ (xs : List Burst). value_at (hear_all m h.registers xs) a) (sym e) ∙ values on a k

  -- a rival is a rival of the crate plan
  module _ (next : World) (next_is : next.chip ≡ chip_of m b p after) (l : List ℕ) (v : Rival m b p world next l) where
    abbrev others : List Burst
    others = map (burst_of b) (transactions l)

    taken : Taken world.chip l
    taken = feed_taken world.chip l v.taken

    rival_fed : (feed_of world.chip l).chip.registers ≡ hear_all m h.registers others
    rival_fed =
        ap (λ (f : Fed). f.chip.registers)
        (feed_writes world.chip l taken.sound taken.sizes (all_writes b p header (transactions l) v.writes))

    plan_rival : Rattle.plan.specs.Machine.Rival (may_write header) 908 (machine header) s h.image h.registers others
    unfolding writes_of
    plan_rival = record {
      allowed = all_good b p header (transactions l) v.writes taken.some;
      same = λ a u k.
          ap (λ (rs : List ℕ). value_at rs a) (sym (hear_all_is header h.registers others) ∙ sym rival_fed)
          ∙ v.leaves a (may_writable header a k)
          ∙ ap (λ (c : Chip). value_at c.registers a) next_is
          ∙ ap (λ (rs : List ℕ). value_at rs a) (hear_all_is header h.registers writes);
    }

    bytes_least : bus_bytes writes ≤ t_of l
    unfolding writes_of
    bytes_least = omega (arith, best.fewest others plan_rival, taken.bytes)

    writes_least : t_of l ≡ bus_bytes writes → length writes ≤ n_of l
    unfolding writes_of
    writes_least e = omega (arith, best.writes others plan_rival (taken.bytes ∙ e), taken.count)

  -- ---- and it answered n and t

  module _ (buffer : List ℕ) (n t stored : ℕ) (e : UpdateAnswers world buffer n t stored) where
    answer : send_answer host (updating host) (length buffer) ≡ listed n t
    answer = sym (answer_of host (updating host) (length buffer)) ∙ ap list_of e

    sizes : Answered host (updating host) (length buffer) n t
    sizes = answered host (updating host) refl (length buffer) n t answer

    -- the list that it wrote
    list : update_list world buffer n t ≡ encode b p writes
    list =
        ap (list_in n t) (list_is host (updating host) buffer n t answer)
        ∙ ap₂ (λ (x y : ℕ). list_in x y (over (encode b p writes) buffer)) sizes.n_is sizes.t_is
        ∙ front b p writes buffer

    abbrev next : World
    next = (step_of world Update buffer).world

    chip_after_lem : next.chip ≡ chip_of m b p after
    chip_after_lem =
        ap (λ (x : ListAnswer). fed_by x (step_of world Update buffer).lent world.chip) (ap list_of e)
        ∙ ap (λ (l : List ℕ). (feed_of world.chip l).chip) list
        ∙ ap (λ (f : Fed). f.chip) fed

    -- it names addresses that may be written, and no others; so it is one of the rivals
    own_rival : Rival m b p world next (encode b p writes)
    own_rival = record {
      taken = ap (λ (f : Fed). accepted f.answer) fed;
      writes =
          subst (AllAllowed b p header) (sym (encode_transactions b p writes (update_sendable host sound)))
          (all_own b p header writes (opens_pins m b p o) (names_writable host sound));
      leaves = λ a k. ap (λ (f : Fed). value_at f.chip.registers a) fed ∙ ap (λ (c : Chip). value_at c.registers a) (sym chip_after_lem);
    }

    owed_here : Owed m b p s world next (update_list world buffer n t) n t
    owed_here =
        let ready-list : Sendable writes = update_sendable host sound in
        record {
          values = λ on a k. ap (λ (c : Chip). value_at c.registers a) chip_after_lem ∙ values on a k;
          fewest = λ l v. omega (arith, sizes.t_is, bytes_least next chip_after_lem l v);
          fewest_writes = λ l v q. omega (arith, sizes.n_is, writes_least next chip_after_lem l v (q ∙ sizes.t_is));
          own = subst (Rival m b p world next) (sym list) own_rival;
          own_count = ap n_of list ∙ encode_n b p writes ready-list ∙ sym sizes.n_is;
          own_bytes = ap t_of list ∙ encode_t b p writes ready-list ∙ sym sizes.t_is;
        }

    -- the record after it, for which there is nothing left to send
    ended_here : writes_of next.host ≡ []
    unfolding writes_of
    ended_here =
        ap writes_of (host_is host (updating host) (length buffer) n t answer)
        ∙ update_again (may_write header) 908 s h.image (ready m b p o s w h).images

  -- what is owed behind it
  pub update_owes : (buffer : List ℕ) (n t stored : ℕ) → UpdateAnswers w buffer n t stored →
      Owed m b p s w (step_of w Update buffer).world (update_list w buffer n t) n t
  update_owes buffer n t stored =
      subst (λ (x : World). UpdateAnswers x buffer n t stored → Owed m b p s x (step_of x Update buffer).world (update_list x buffer n t) n t)
      (sym h.is) (owed_here buffer n t stored)

  -- and that nothing is left to send
  pub update_ends : (buffer : List ℕ) (n t stored : ℕ) → UpdateAnswers w buffer n t stored → writes_of (step_of w Update buffer).world.host ≡ []
  update_ends buffer n t stored =
      subst (λ (x : World). UpdateAnswers x buffer n t stored → writes_of (step_of x Update buffer).world.host ≡ []) (sym h.is) (ended_here buffer n t stored)

  -- Q-3: "the register values are owed once a chip wanted on is finished"
  pub finished_values : writes_of w.host ≡ [] → wants_on s ≡ true → SameWritable m w.chip.registers s
  finished_values =
      subst (λ (x : World). writes_of x.host ≡ [] → wants_on s ≡ true → SameWritable m x.chip.registers s) (sym h.is) finished_here

  -- a part names addresses that may be written, and no others
  pub part_allowed : (room : ℕ) → AllAllowed b p w.host.header (transactions (encode b p (part_of w room)))
  part_allowed room =
      let ok : PartSendable header (part_of w room) = begins_sendable m b p o s w h (part_of w room) (portion_begins room (writes_of w.host)) in
      let ready-list : Sendable (part_of w room) = record { some = ok.some; short = omega (arith, ok.short) } in
      subst (λ (x : Header). AllAllowed b p x (transactions (encode b p (part_of w room)))) (sym (ap (λ (x : World). x.host.header) h.is))
      (subst (AllAllowed b p header) (sym (encode_transactions b p (part_of w room) ready-list))
      (all_own b p header (part_of w room) (opens_pins m b p o) ok.good))

-- ---- the last event of a list

module _ (m b p : ℕ) (o : opens m b p ≡ true) (s : List ℕ) (w : World) (h : Holds m b p s w) (events before : List Event) (buffer : List ℕ) (n t stored : ℕ) where
  abbrev earlier : World
  earlier = run w before

  abbrev ledger_earlier : List ℕ
  ledger_earlier = entries m s (told w before)

  holds_earlier : Holds m b p ledger_earlier earlier
  holds_earlier = run_holds m b p o before s w h

  abbrev update : List Event
  update = call (record { request = Update; lent = buffer }) ∷ []

  -- what is owed behind an accepted Update, wherever it stands
  owed : UpdateAnswers earlier buffer n t stored → Owed m b p ledger_earlier earlier (step_of earlier Update buffer).world (update_list earlier buffer n t) n t
  owed = update_owes m b p o ledger_earlier earlier holds_earlier buffer n t stored

  module _ (u : Updates w events before [] buffer n t stored) where
    abbrev ledger_now : List ℕ
    ledger_now = entries m s (told w events)

    world_last : run w events ≡ (step_of earlier Update buffer).world
    world_last = ap (run w) u.events_are ∙ run_append before update w

    ledger_stays : ledger_now ≡ ledger_earlier
    ledger_stays =
        ap (λ (l : List Event). entries m s (told w l)) u.events_are ∙ ledger_append m s w before update
        ∙ enters_nothing m ledger_earlier (tell earlier (record { request = Update; lent = buffer })) refl

    last_update : Owed m b p ledger_now earlier (run w events) (update_list earlier buffer n t) n t
    last_update =
        subst (λ (x : World). Owed m b p ledger_now earlier x (update_list earlier buffer n t) n t) (sym world_last)
        (subst (λ (x : List ℕ). Owed m b p x earlier (step_of earlier Update buffer).world (update_list earlier buffer n t) n t) (sym ledger_stays)
        (owed u.answers))

    answer_again : (size : ℕ) → (update_of (run w events).host size).answer ≡ cond (leb 4 size) (listed 0 0) (short 4)
    unfolding send_of send_answer
    answer_again size =
        let k : Holds m b p ledger_now (run w events) = run_holds m b p o events s w h in
        let so : sound_of (run w events).host ≡ true =
        ap (λ (x : World). sound_of x.host) k.is ∙ is_so m b p o ledger_now (run w events) k in
        let none : writes_of (run w events).host ≡ [] =
        ap (λ (x : World). writes_of x.host) world_last ∙ update_ends m b p o ledger_earlier earlier holds_earlier buffer n t stored u.answers in
        rw (so, none) refl

-- Demand 3, from wherever the invariant holds
pub holds_owes : (m b p : ℕ) → opens m b p ≡ true → (s : List ℕ) (w : World) → Holds m b p s w → (events : List Event) → Demand3 m b p s w events
holds_owes m b p o s w h events = record {
  names = λ before behind buffer n t stored u. (owed m b p o s w h events before buffer n t stored u.answers).own.writes;
  part_names = λ before behind room e. part_allowed m b p o (entries m s (told w before)) (run w before) (run_holds m b p o before s w h) room;
  last = λ before buffer n t stored u. last_update m b p o s w h events before buffer n t stored u;
  finished = finished_values m b p o (entries m s (told w events)) (run w events) (run_holds m b p o events s w h);
}

pub opened : (m b p : ℕ) → accepted (open_of m b p).answer ≡ true → opens m b p ≡ true
unfolding open_of opens
opened m b p e = e

-- Demand 3
pub whole_lists : WholeLists
whole_lists m b p e events = holds_owes m b p (opened m b p e) (reset_image m) (start m b p) (start_holds m b p (opened m b p e)) events

-- A second Update at once sends nothing: its list has no transaction, and asks for 4 bytes of buffer.
pub second_update : (m b p : ℕ) → accepted (open_of m b p).answer ≡ true → (events before : List Event) (buffer : List ℕ) (n t stored : ℕ) →
    Updates (start m b p) events before [] buffer n t stored → (size : ℕ) →
    (update_of (world_after m b p events).host size).answer ≡ cond (leb 4 size) (listed 0 0) (short 4)
second_update m b p e events before buffer n t stored u size =
    answer_again m b p (opened m b p e) (reset_image m) (start m b p) (start_holds m b p (opened m b p e)) events before buffer n t stored u size

-- Q-4: of every accepted Update, wherever it stands, what it answers that it stored "is t less 2n".
pub stored_so : (w : World) (buffer : List ℕ) (n t stored : ℕ) → UpdateAnswers w buffer n t stored → stored ≡ t - 2 * n
stored_so w buffer n t stored e = sym (ap stored_of e) ∙ stored_is w.host (length buffer) n t (ap list_of e)
