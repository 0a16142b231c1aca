-- Each chip is finished after at most as many accepted rounds with it present as it has differing registers: `finishing`. Each such round
-- settles one, since a share is at least three bytes: a head and the first data byte, which is for a register that differs.
-- Assumes nothing.
use Rattle.std.specs.Prelude.{◌≡◌, ◌⊎◌, Bool, true, false, cond, ◌&&◌, ℕ, suc, ◌+◌, ◌≤◌, ◌<◌, eqb, length}
use Rattle.std.proofs.Math.Path.{refl}
use Rattle.std.proofs.Common.{sym, ap, ◌∙◌, subst, true≢false, arith, eqb-true}
use Rattle.std.proofs.Math.Logic.{inl, inr}
use mathlib.Core.List.{List, [], ◌∷◌, ◌++◌}
use Rattle.map.specs.Refusals.{accepted, opens}
use Rattle.burst.specs.Burst.{Burst, bus_bytes}
use Rattle.plan.specs.Lists.{All}
use Rattle.plan.specs.Update.{value_at, seen, store_all, Images}
use Rattle.plan.specs.Portion.{portion}
use Rattle.plan.proofs.PortionLaws.{First, portion_bytes, portion_begins, portion_empty, portion_more, portion_first, begins_bytes, begins_all}
use Rattle.calls.specs.declared.Setting.{Setting}
use Rattle.calls.specs.declared.Request.{Request}
use Rattle.calls.specs.declared.Request.TheVariants.{Set, Reset, PowerLost, Update, Lock}
use Rattle.host.specs.declared.Header.{Header}
use Rattle.host.specs.declared.Record.{Record}
use Rattle.host.specs.Record.{header_of, record_of, locked, may_write, changed_to, setting_of, lock_answer, lock_of}
use Rattle.host.specs.LockLaws.{LockTaken, lock_taken}
use Rattle.host.proofs.SoundLaws.{Sound, sound_is}
use Rattle.update.specs.Update.{is_listed, send_answer, send_of, writes_of, updating, resetting}
use Rattle.update.specs.SendLaws.{host_kept}
use Rattle.update.specs.LockedLaws.{marked, lock_nothing, free_is}
use Rattle.rounds.specs.Round.{share_of, takes, round_room}
use Rattle.rounds.proofs.DealLaws.{room_share, round_takes}
use Rattle.history.specs.declared.World.{World}
use Rattle.history.specs.Ledger.{entries, wants_on}
use Rattle.history.specs.Step.{step_of}
use Rattle.history.specs.History.{Call}
use Rattle.demand.specs.Events.{Event, call, part, part_step, event_step, run, told}
use Rattle.demand.specs.Demand.{SameWritable}
use Rattle.demand.proofs.WorldLaws.{world_of, Holds, is_so, ready, event_holds, run_holds}
use Rattle.bus.specs.Bus.{hosts_of, accepts, BusCall, plain, round, bus_step}
use Rattle.bus_demand.specs.BusLists.{starts, panels_after, ledger_at}
use Rattle.bus_demand.specs.Places.{events_of, events_at, Opened}
use Rattle.bus_demand.proofs.BridgeLaws.{AllHold, call_is, call_holds, projected, bus_holds, all_opened}
use Rattle.bus_demand.proofs.BusTheorem.{bus_append, bus_whole_lists}
use Rattle.bus_demand.specs.Finishing.{differing_of, resets, Still, StillUnder, StillAt, rounds_in, rounds_at, Finishes, Finishing}
use Rattle.bus_demand.specs.SettlingLaws.{differing_le, differing_less, differing_some, Right, cut_right, store_kept, store_first, FirstDiffers, update_right, update_first}

-- ---- One panel: its pending list

-- A record is finished, or the registers that differ and the parts so far are at most d.
abbrev Nearer : Record → ℕ → ℕ → Type 0
Nearer r done d = (writes_of r ≡ []) ⊎ (differing_of r + done ≤ d)

module _ (m b p : ℕ) (o : opens m b p ≡ true) (s : List ℕ) (w : World) (h : Holds m b p s w) where
  abbrev header : Header
  header = header_of m b p h.marks

  abbrev host : Record
  host = record_of header s h.image

  abbrev image : List ℕ
  image = h.image

  -- the writes that wait are of the settings' bytes, and the first one starts at a register that differs
  images : Images (may_write header) 908 s image
  images = (ready m b p o s w h).images

  right : All (Right 908 s) (writes_of host)
  unfolding writes_of
  right = update_right (may_write header) 908 s images.layout images.want_enable (seen (value_at s) (value_at image))

  first : FirstDiffers s image (writes_of host)
  unfolding writes_of
  first = update_first (may_write header) 908 s images.layout images.want_enable image

  -- where nothing differs nothing waits
  none_waits : differing_of host ≡ 0 → writes_of host ≡ []
  none_waits e = go (writes_of host) right first
    where
      go : (bs : List Burst) → All (Right 908 s) bs → FirstDiffers s image bs → bs ≡ []
      go [] r f = refl
      go (x ∷ bs) r f = absurd (omega (arith, differing_some s image 908 x.start (omega (arith, r.0.inside, r.0.some)) f))

  -- all that waits leaves no more registers that differ,
  whole_le : differing_of (takes host (writes_of host)) ≤ differing_of host
  whole_le = differing_le s image (store_all (writes_of host) image) (store_kept 908 s (writes_of host) right image h.image_fit.size) 908

  -- and writes of which the first starts at a register that differs leave fewer
  first_settles : (x : Burst) → (value_at image x.start ≡ value_at s x.start → ⊥) → (xs : List Burst) → First x xs → All (Right 908 s) xs →
      suc (differing_of (takes host xs)) ≤ differing_of host
  first_settles x f xs q r =
      let rest : All (Right 908 s) (q.first ∷ q.rest) = subst (All (Right 908 s)) q.is r in
      let now : value_at (store_all (q.first ∷ q.rest) image) x.start ≡ value_at s x.start =
      subst (λ (a : ℕ). value_at (store_all (q.first ∷ q.rest) image) a ≡ value_at s a) q.start
      (store_first 908 s q.first q.rest rest image h.image_fit.size) in
      differing_less s image (store_all xs image) (store_kept 908 s xs r image h.image_fit.size) 908 x.start
      (omega (arith, q.start, rest.0.inside, rest.0.some)) f
      (ap (λ (ys : List Burst). value_at (store_all ys image) x.start) q.is ∙ now)

  -- so does a portion within three bytes or more, if anything waits
  part_less : (room : ℕ) → bus_bytes (portion 3 (writes_of host)) ≤ room →
      (writes_of host ≡ []) ⊎ (suc (differing_of (takes host (portion room (writes_of host)))) ≤ differing_of host)
  part_less room l = go (writes_of host) right first l
    where
      -- the portion within three bytes has three, if anything waits
      three : (x : Burst) (xs : List Burst) → First x xs → bus_bytes xs ≤ room → 3 ≤ room
      three x xs q l = omega (arith, ap bus_bytes q.is, q.some)

      go : (bs : List Burst) → All (Right 908 s) bs → FirstDiffers s image bs → bus_bytes (portion 3 bs) ≤ room →
          (bs ≡ []) ⊎ (suc (differing_of (takes host (portion room bs))) ≤ differing_of host)
      go [] r f l = inl refl
      go (x ∷ bs) r f l =
          inr (first_settles x f (portion room (x ∷ bs))
          (portion_first room x bs r.0.some (three x (portion 3 (x ∷ bs)) (portion_first 3 x bs r.0.some (omega arith)) l))
          (begins_all (Right 908 s) (cut_right 908 s) (portion room (x ∷ bs)) (x ∷ bs) (portion_begins room (x ∷ bs)) r))

  -- ---- a part

  part_nearer_here : (room : ℕ) → bus_bytes (portion 3 (writes_of host)) ≤ room → (done d : ℕ) → Nearer host done d →
      Nearer (takes host (portion room (writes_of host))) (suc done) d
  part_nearer_here room l done d near = go near (part_less room l)
    where
      nothing : writes_of host ≡ [] → writes_of (takes host (portion room (writes_of host))) ≡ []
      nothing e = ap (λ (xs : List Burst). writes_of (takes host xs)) (ap (portion room) e ∙ portion_empty room) ∙ e

      go : Nearer host done d → (writes_of host ≡ []) ⊎ (suc (differing_of (takes host (portion room (writes_of host)))) ≤ differing_of host) →
          Nearer (takes host (portion room (writes_of host))) (suc done) d
      go (inl e) q = inl (nothing e)
      go (inr n) (inl e) = inl (nothing e)
      go (inr n) (inr q) = inr (omega arith)

  -- ---- a call under which settings stand still

  abbrev world : World
  world = world_of m b p h.marks s image h.registers

  setting_same : (q : Setting) (lent : List ℕ) →
      (setting_of host q lent).host ≡ record_of header (setting_of host q lent).host.settings image
  unfolding setting_of changed_to
  setting_same q lent = refl

  update_nearer : (size done d : ℕ) → Nearer host done d → Nearer (send_of host (updating host) size).host done d
  unfolding send_of
  update_nearer size done d near = go (is_listed (send_answer host (updating host) size))
    where
      sent : Nearer host done d → Nearer (takes host (writes_of host)) done d
      sent (inl e) = inl (ap (λ (xs : List Burst). writes_of (takes host xs)) e ∙ e)
      sent (inr l) = inr (omega (arith, whole_le))

      go : (c : Bool) → Nearer (cond c (takes host (writes_of host)) host) done d
      go true = sent near
      go false = near

  -- a Lock leaves both images, and what is finished stays so
  lock_nearer : (done d : ℕ) → Nearer host done d → Nearer (lock_of host).host done d
  unfolding lock_of
  lock_nearer done d near = go (accepted (lock_answer host)) refl near
    where
      sound : Sound host
      sound = sound_is host (is_so m b p o s w h)

      go : (c : Bool) → accepted (lock_answer host) ≡ c → Nearer host done d → Nearer (cond c (marked host locked) host) done d
      go true e (inl q) =
          let t : LockTaken host = lock_taken host e in
          inl (lock_nothing host h.settings_fit t.trims (ap writes_of (sym (free_is host sound t.free)) ∙ q))
      go true e (inr l) = inr l
      go false e k = k

  -- no more registers differ, and what is finished stays so
  still_nearer_here : (request : Request) (lent : List ℕ) → (step_of world request lent).world.host.settings ≡ s → resets world request lent ≡ false →
      (done d : ℕ) → Nearer host done d → Nearer (step_of world request lent).world.host done d
  still_nearer_here (Set q) lent e n done d near =
      subst (λ (r : Record). Nearer r done d) (sym (setting_same q lent ∙ ap (λ (x : List ℕ). record_of header x image) e)) near
  still_nearer_here Reset lent e n done d near =
      subst (λ (r : Record). Nearer r done d) (sym (host_kept host (resetting host) (length lent) n)) near
  still_nearer_here PowerLost lent e n done d near = absurd (true≢false n)
  still_nearer_here Update lent e n done d near = update_nearer (length lent) done d near
  still_nearer_here Lock lent e n done d near = lock_nearer done d near

  -- ---- in terms of the world

  finished_at : differing_of w.host ≡ 0 → writes_of w.host ≡ []
  finished_at = subst (λ (x : World). differing_of x.host ≡ 0 → writes_of x.host ≡ []) (sym h.is) none_waits

  part_nearer : (room : ℕ) → bus_bytes (portion 3 (writes_of w.host)) ≤ room → (done d : ℕ) → Nearer w.host done d →
      Nearer (part_step w room).host (suc done) d
  part_nearer =
      subst (λ (x : World). (room : ℕ) → bus_bytes (portion 3 (writes_of x.host)) ≤ room → (done d : ℕ) → Nearer x.host done d →
      Nearer (part_step x room).host (suc done) d) (sym h.is) part_nearer_here

  still_nearer : (c : Call) → Still w c → (done d : ℕ) → Nearer w.host done d → Nearer (step_of w c.request c.lent).world.host done d
  still_nearer c q =
      subst (λ (x : World). (step_of x c.request c.lent).world.host.settings ≡ x.host.settings → resets x c.request c.lent ≡ false →
      (done d : ℕ) → Nearer x.host done d → Nearer (step_of x c.request c.lent).world.host done d) (sym h.is)
      (still_nearer_here c.request c.lent) q.settings q.no_reset

-- ---- One panel: its events

-- an event under which a panel goes on to finish; the room of a part holds at least the portion within three bytes
abbrev Goes : World → Event → Type 0
Goes w (call c) = Still w c
Goes w (part room) = bus_bytes (portion 3 (writes_of w.host)) ≤ room

abbrev pub GoOn : World → List Event → Type 0
GoOn w [] = Unit
GoOn w (e ∷ es) = Goes w e × GoOn (event_step w e) es

abbrev pub parts_in : List Event → ℕ
parts_in [] = 0
parts_in (call c ∷ es) = parts_in es
parts_in (part room ∷ es) = suc (parts_in es)

module _ (m b p : ℕ) (o : opens m b p ≡ true) where
  events_nearer : (es : List Event) (s : List ℕ) (w : World) → Holds m b p s w → GoOn w es → (done d : ℕ) → Nearer w.host done d →
      Nearer (run w es).host (done + parts_in es) d
  events_nearer [] s w h g done d n = subst (λ (k : ℕ). Nearer w.host k d) (omega arith) n
  events_nearer (call c ∷ es) s w h g done d n =
      events_nearer es (entries m s (told w (call c ∷ []))) (event_step w (call c)) (event_holds m b p o s w h (call c)) g.1 done d
      (still_nearer m b p o s w h c g.0 done d n)
  events_nearer (part room ∷ es) s w h g done d n =
      subst (λ (k : ℕ). Nearer (run (part_step w room) es).host k d) (omega arith)
      (events_nearer es (entries m s (told w (part room ∷ []))) (part_step w room) (event_holds m b p o s w h (part room)) g.1 (suc done) d
      (part_nearer m b p o s w h room g.0 done d n))

  -- as many parts as registers differ, and nothing waits
  pub events_finish : (es : List Event) (s : List ℕ) (w : World) → Holds m b p s w → GoOn w es → differing_of w.host ≤ parts_in es →
      writes_of (run w es).host ≡ []
  events_finish es s w h g few = go (events_nearer es s w h g 0 (differing_of w.host) (inr (omega arith)))
    where
      go : Nearer (run w es).host (0 + parts_in es) (differing_of w.host) → writes_of (run w es).host ≡ []
      go (inl e) = e
      go (inr n) = finished_at m b p o (entries m s (told w es)) (run w es) (run_holds m b p o es s w h) (omega arith)

-- ---- Four panels

go_on_append : (xs ys : List Event) (w : World) → GoOn w xs → GoOn (run w xs) ys → GoOn w (xs ++ ys)
go_on_append [] ys w g k = k
go_on_append (x ∷ xs) ys w g k = (g.0, go_on_append xs ys (event_step w x) g.1 k)

parts_append : (xs ys : List Event) → parts_in (xs ++ ys) ≡ parts_in xs + parts_in ys
parts_append [] ys = omega arith
parts_append (call c ∷ xs) ys = parts_append xs ys
parts_append (part room ∷ xs) ys = omega (arith, parts_append xs ys)

module _ (k : ℕ) (l : k < 4) where
  -- an accepted round with the place present is one part of it
  parts_of : (w : ℕ → World) (c : BusCall) → parts_in (events_of k w c) ≡ rounds_in k w c
  parts_of w (plain j c) = go (eqb k j)
    where
      go : (x : Bool) → parts_in (cond x (call c ∷ []) []) ≡ 0
      go true = refl
      go false = refl
  parts_of w (round present limit buffer) = go (accepts present limit (length buffer) w && present k)
    where
      go : (x : Bool) → parts_in (cond x (part (round_room present (hosts_of w) limit k) ∷ []) []) ≡ cond x 1 0
      go true = refl
      go false = refl

  parts_at : (calls : List BusCall) (w : ℕ → World) → parts_in (events_at k w calls) ≡ rounds_at k w calls
  parts_at [] w = refl
  parts_at (c ∷ cs) w =
      parts_append (events_of k w c) (events_at k (bus_step w c) cs) ∙ omega (arith, parts_of w c, parts_at cs (bus_step w c))

  -- "A share is B / 4, whole", and B is 12 or more: the room of an accepted round holds the portion within three bytes
  round_goes : (w : ℕ → World) (present : ℕ → Bool) (limit : ℕ) (buffer : List ℕ) → GoOn (w k) (events_of k w (round present limit buffer))
  round_goes w present limit buffer = go (accepts present limit (length buffer) w) refl (present k) refl
    where
      waits : List Burst
      waits = writes_of (w k).host

      more : (bs : List Burst) → 3 ≤ share_of limit → bus_bytes (portion 3 bs) ≤ bus_bytes (portion (share_of limit) bs)
      more bs q = begins_bytes (portion 3 bs) (portion (share_of limit) bs) (portion_more 3 (share_of limit) bs (omega (arith, portion_bytes 3 bs)))

      enough : present k ≡ true → 12 ≤ limit → bus_bytes (portion 3 (writes_of (w k).host)) ≤ round_room present (hosts_of w) limit k
      enough e q =
          let three : 3 ≤ share_of limit = omega arith in
          let least : bus_bytes (portion (share_of limit) waits) ≤ round_room present (hosts_of w) limit k =
          subst (λ (x : Bool). bus_bytes (portion (share_of limit) (cond x waits [])) ≤ round_room present (hosts_of w) limit k) e
          (room_share present (hosts_of w) limit k l) in
          omega (arith, more waits three)

      go : (a : Bool) → accepts present limit (length buffer) w ≡ a → (x : Bool) → present k ≡ x →
          GoOn (w k) (cond (a && x) (part (round_room present (hosts_of w) limit k) ∷ []) [])
      go true e true f = (enough f (round_takes present (hosts_of w) limit (length buffer) e).least, tt)
      go true e false f = tt
      go false e x f = tt

  call_goes : (w : ℕ → World) (c : BusCall) → StillUnder k w c → GoOn (w k) (events_of k w c)
  call_goes w (plain j c) q = go (eqb k j) refl
    where
      go : (x : Bool) → eqb k j ≡ x → GoOn (w k) (cond x (call c ∷ []) [])
      go true e = (q (eqb-true k j e), tt)
      go false e = tt
  call_goes w (round present limit buffer) q = round_goes w present limit buffer

  module _ (m b p : ℕ → ℕ) (o : (j : ℕ) → j < 4 → opens (m j) (b j) (p j) ≡ true) where
    -- the events of a place whose settings stand still
    calls_go : (calls : List BusCall) (s : ℕ → List ℕ) (w : ℕ → World) → AllHold m b p s w → StillAt k w calls → GoOn (w k) (events_at k w calls)
    calls_go [] s w h q = tt
    calls_go (c ∷ cs) s w h q =
        let later : List Event = events_at k (bus_step w c) cs in
        go_on_append (events_of k w c) later (w k) (call_goes w c q.0)
        (subst (λ (x : World). GoOn x later) (call_is m b p o s w h c k l)
        (calls_go cs (λ j. entries (m j) (s j) (told (w j) (events_of j w c))) (bus_step w c) (call_holds m b p o s w h c) q.1))

    -- from any worlds for which the invariant holds
    pub finishes : (calls : List BusCall) (s : ℕ → List ℕ) (w : ℕ → World) → AllHold m b p s w → Finishes k w calls
    finishes calls s w h q few =
        ap (λ (x : World). writes_of x.host) (projected m b p o calls s w h k l).world
        ∙ events_finish (m k) (b k) (p k) (o k l) (events_at k w calls) (s k) (w k) (h k l) (calls_go calls s w h q) (omega (arith, parts_at calls w))

-- Each chip is finished after as many rounds as it had differing registers.
pub finishing : Finishing
finishing m b p opened before calls k l =
    let o : (j : ℕ) → j < 4 → opens (m j) (b j) (p j) ≡ true = all_opened m b p opened in
    finishes k l m b p o calls (λ j. ledger_at m b p j before) (panels_after m b p before) (bus_holds m b p o before)

-- So a chip that is wanted on then holds the ledger: "the register values are owed once a chip wanted on is finished".
pub finishing_values : (m b p : ℕ → ℕ) → Opened m b p → (before calls : List BusCall) (k : ℕ) → k < 4 →
    StillAt k (panels_after m b p before) calls → differing_of (panels_after m b p before k).host ≤ rounds_at k (panels_after m b p before) calls →
    wants_on (ledger_at m b p k (before ++ calls)) ≡ true →
    SameWritable (m k) (panels_after m b p (before ++ calls) k).chip.registers (ledger_at m b p k (before ++ calls))
finishing_values m b p opened before calls k l q few =
    (bus_whole_lists m b p opened (before ++ calls)).finished k l
    (ap (λ (x : World). writes_of x.host) (bus_append before calls (starts m b p) k) ∙ finishing m b p opened before calls k l q few)
