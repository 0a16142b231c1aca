-- Demand 3 is met for a C program: `panel_whole_lists`, from `holds_owes` of the crate history. `after_bytes` says that the bytes
-- after any list of calls are those of the record and chip after the same calls by value, and `none_pending` when a chip is finished.
-- Assumes nothing.
use Rattle.std.specs.Prelude.{◌≡◌, refl, true, List, [], ◌∷◌, map, ℕ, ◌≤◌, length}
use Rattle.std.proofs.Common.{sym, ap₂, ◌∙◌, subst, arith}
use Rattle.std.proofs.Math.Path.{ap}
use Rattle.std.proofs.lemmas.List.{map-append}
use Rattle.map.specs.Refusals.{accepted, answer_number, opens, open_answer}
use Rattle.map.specs.Map.{is_dot}
use Rattle.map.specs.Images.{reset_image}
use Rattle.burst.specs.Burst.{Burst, transactions}
use Rattle.calls.specs.declared.Request.TheVariants.{Update}
use Rattle.host.specs.declared.Header.{Header}
use Rattle.host.specs.declared.Record.{Record}
use Rattle.host.specs.Record.{header_of, record_of, sound_of, open_of}
use Rattle.host.proofs.SoundLaws.{is_sound}
use Rattle.update.specs.Update.{ListAnswer, listed, list_number, send_of, writes_of, updating, update_stored, update_of, update_buffer}
use Rattle.update.specs.SendLaws.{answered, answer_of}
use Rattle.update.specs.BoundLaws.{always_room}
use Rattle.chip.specs.declared.Chip.{Chip}
use Rattle.chip.specs.Chip.{at_reset_of, feed_of}
use Rattle.history.specs.declared.World.{World}
use Rattle.history.specs.declared.CallAnswer as answers
use Rattle.history.specs.Ledger.{entries, ledger, wants_on}
use Rattle.history.specs.History.{start}
use Rattle.demand.specs.Events.{run, world_after, told, ledger_after}
use Rattle.demand.specs.Demand.{SameWritable, AllAllowed, Rival, Updates, Owed}
use Rattle.demand.proofs.WorldLaws.{Holds, start_holds, run_holds}
use Rattle.demand.proofs.Theorem.{holds_owes}
use Rattle.demand.proofs.Lamps.{SameLamp, same_lamp}
use Rattle.capi.specs.Capi.{header_in, record_in, record_bytes, record_size, chip_bytes, chip_size, when_sized, setting_number, chip_number, n_after, t_after, Outcome, ListOutcome}
use Rattle.capi.specs.Calls.{chip_feed_call}
use Rattle.capi.specs.CapiLaws.{record_back, record_sized_lem, chip_sized_lem, record_length, chip_length, accepted_zero, zero_accepted, zero_stores}
use Rattle.capi.specs.CallLaws.{list_outcome_of, open_accepted, open_bytes, at_reset_bytes, send_call_lem, feed_call}
use Rattle.panel.specs.PanelStep.{Panel, panel_of}
use Rattle.panel_demand.specs.PanelHistory.{PanelCall, panel_start, PanelOpened, panel_run, panel_after, panel_told, event_of, panel_ledger, registers_in, PanelRival, list_of, update_leaves, PanelUpdates, PanelOwed, PanelDemand3, PanelWholeLists}
use Rattle.panel_demand.specs.PanelLaws.{bytes_of, Whole, whole, run_bytes, run_told}

-- any memory of the two sizes serves, with any member, bus and pins that Open takes
pub opened_by : (m b p : ℕ) (memory : Panel) → length memory.host ≡ record_size → length memory.chip ≡ chip_size → accepted (open_of m b p).answer ≡ true →
    PanelOpened m b p memory
unfolding setting_number chip_number when_sized open_of at_reset_of
opened_by m b p memory hr hc e = record {
  record_opened = rw (record_sized_lem memory.host hr) (accepted_zero (open_answer m b p) e);
  chip_opened = rw (chip_sized_lem memory.chip hc) (accepted_zero (open_answer m b p) e);
}

-- ---- rivals

registers_are : (c : Chip) → registers_in (chip_bytes c) ≡ c.registers
unfolding chip_bytes
registers_are c = refl

-- the header in the bytes of a record
header_is : (r : Record) → header_in (record_bytes r) ≡ r.header
unfolding header_in record_bytes
header_is r = refl

module _ (m b p : ℕ) (c d : World) (h : length c.chip.registers ≡ 908) (l : List ℕ) where
  fed_answer : (chip_feed_call (chip_bytes c.chip) l).answer ≡ answer_number (feed_of c.chip l).answer
  fed_answer = ap (λ (x : Outcome). x.answer) (feed_call c.chip h l)

  fed_registers_lem : registers_in (chip_feed_call (chip_bytes c.chip) l).bytes ≡ (feed_of c.chip l).chip.registers
  fed_registers_lem = ap (λ (x : Outcome). registers_in x.bytes) (feed_call c.chip h l) ∙ registers_are (feed_of c.chip l).chip

  to_values : PanelRival m b p (bytes_of c) (bytes_of d) l → Rival m b p c d l
  to_values v = record {
    taken = zero_accepted (feed_of c.chip l).answer (sym fed_answer ∙ v.taken);
    writes = subst (λ (x : Header). AllAllowed b p x (transactions l)) (header_is c.host) v.writes;
    leaves = subst (λ (x : List ℕ). SameWritable m x d.chip.registers) fed_registers_lem
        (subst (λ (y : List ℕ). SameWritable m (registers_in (chip_feed_call (chip_bytes c.chip) l).bytes) y) (registers_are d.chip) v.leaves);
  }

  to_bytes : Rival m b p c d l → PanelRival m b p (bytes_of c) (bytes_of d) l
  to_bytes v = record {
    taken = fed_answer ∙ accepted_zero (feed_of c.chip l).answer v.taken;
    writes = subst (λ (x : Header). AllAllowed b p x (transactions l)) (sym (header_is c.host)) v.writes;
    leaves = subst (λ (x : List ℕ). SameWritable m x (registers_in (chip_bytes d.chip))) (sym fed_registers_lem)
        (subst (λ (y : List ℕ). SameWritable m (feed_of c.chip l).chip.registers y) (sym (registers_are d.chip)) v.leaves);
  }

-- ---- after any list of calls

no_writes : (xs : List Burst) → length xs ≡ 0 → xs ≡ []
no_writes [] e = refl
no_writes (x ∷ xs) e = absurd (omega arith)

-- from the bytes of a world for which the invariant of history holds
module _ (m b p : ℕ) (so : opens m b p ≡ true) (s : List ℕ) (w : World) (h : Holds m b p s w) where
  -- the bytes are those of the record and the chip after the same calls by value
  pub run_is : (calls : List PanelCall) → panel_run (bytes_of w) calls ≡ bytes_of (run w (map event_of calls))
  run_is calls = run_bytes m b p so calls s w h

  module _ (calls : List PanelCall) where
    abbrev world : World
    world = run w (map event_of calls)

    abbrev asked : List ℕ
    asked = entries m s (told w (map event_of calls))

    -- the ledger is the same, too
    ledger_is : entries m s (panel_told (bytes_of w) calls) ≡ asked
    ledger_is = ap (entries m s) (run_told m b p so calls s w h)

    holds : Holds m b p asked world
    holds = run_holds m b p so (map event_of calls) s w h

    sizes : Whole world
    sizes = whole m b p so asked world holds

    is_so : sound_of world.host ≡ true
    is_so =
        ap (λ (x : World). sound_of x.host) holds.is
        ∙ is_sound (record_of (header_of m b p holds.marks) asked holds.image)
        (record { opened = so; settings = holds.settings_fit; image = holds.image_fit; marks = holds.marks_fit })

    module _ (buffer : List ℕ) (n t : ℕ) where
      -- what an Update of the record answers, and what it leaves
      abbrev answer : ListAnswer
      answer = (update_of world.host (length buffer)).answer

      abbrev left : ListOutcome
      left = list_outcome_of (send_of world.host (updating world.host) (length buffer)) (update_buffer world.host buffer) n t

      left_is : update_leaves (panel_run (bytes_of w) calls) buffer n t ≡ left
      left_is =
          ap (λ (x : Panel). update_leaves x buffer n t) (run_is calls)
          ∙ send_call_lem world.host sizes.settings sizes.image updating buffer n t

      -- with a buffer of 1,174 bytes an Update always answers 0
      room_here : 1174 ≤ length buffer → (update_leaves (panel_run (bytes_of w) calls) buffer n t).answer ≡ 0
      unfolding send_of
      room_here k = ap (λ (x : ListOutcome). x.answer) left_is ∙ ap list_number (always_room world.host is_so (length buffer) k)

      -- one that answers 0 and stores n = 0 has nothing pending
      none_here : (update_leaves (panel_run (bytes_of w) calls) buffer n t).answer ≡ 0 → (update_leaves (panel_run (bytes_of w) calls) buffer n t).n ≡ 0 →
          writes_of (record_in (panel_run (bytes_of w) calls).host) ≡ []
      none_here zero none =
          let r : Record = world.host in
          let is_list : answer ≡ listed (n_after answer n) (t_after answer t) =
          zero_stores answer n t (ap (λ (x : ListOutcome). x.answer) (sym left_is) ∙ zero) in
          let n_is : n_after answer n ≡ length (writes_of r) =
          (answered r (updating r) refl (length buffer) (n_after answer n) (t_after answer t) (sym (answer_of r (updating r) (length buffer)) ∙ is_list)).n_is in
          ap (λ (x : Panel). writes_of (record_in x.host)) (run_is calls)
          ∙ ap writes_of (record_back r sizes.settings sizes.image)
          ∙ no_writes (writes_of r) (sym n_is ∙ ap (λ (x : ListOutcome). x.n) (sym left_is) ∙ none)

  -- ---- an Update that answered 0

  module _ (calls before behind : List PanelCall) (buffer : List ℕ) (n t stored needed : ℕ) (u : PanelUpdates (bytes_of w) calls before behind buffer n t stored needed) where
    abbrev stores : ListAnswer
    stores = answer before buffer n t

    updates : Updates w (map event_of calls) (map event_of before) (map event_of behind) buffer (n_after stores n) (t_after stores t) (update_stored (world before).host (length buffer))
    updates = record {
      events_are = ap (map event_of) u.calls_are ∙ map-append event_of before (record { request = Update; lent = buffer; n = n; t = t; stored = stored; needed = needed } ∷ behind);
      answers = ap (λ (x : ListAnswer). answers.TheVariants.Update x (update_stored (world before).host (length buffer))) (zero_stores stores n t (ap (λ (x : ListOutcome). x.answer) (sym (left_is before buffer n t)) ∙ u.answers));
    }

    names_so : AllAllowed b p (header_in (panel_run (bytes_of w) before).host) (transactions (list_of (update_leaves (panel_run (bytes_of w) before) buffer n t)))
    names_so =
        subst (λ (x : ListOutcome). AllAllowed b p (header_in (panel_run (bytes_of w) before).host) (transactions (list_of x))) (sym (left_is before buffer n t))
        (subst (λ (x : Header). AllAllowed b p x (transactions (list_of (left before buffer n t))))
        (sym (ap (λ (x : Panel). header_in x.host) (run_is before) ∙ header_is (world before).host))
        ((holds_owes m b p so s w h (map event_of calls)).names (map event_of before) (map event_of behind) buffer (n_after stores n) (t_after stores t) (update_stored (world before).host (length buffer)) updates))

  module _ (calls before : List PanelCall) (buffer : List ℕ) (n t stored needed : ℕ) (u : PanelUpdates (bytes_of w) calls before [] buffer n t stored needed) where
    abbrev found : ListOutcome
    found = left before buffer n t

    -- the claim by value, and in it the worlds before and after the Update
    claim : Owed m b p (asked calls) (world before) (world calls) (list_of found) found.n found.t
    claim = (holds_owes m b p so s w h (map event_of calls)).last (map event_of before) buffer found.n found.t (update_stored (world before).host (length buffer)) (updates calls before [] buffer n t stored needed u)

    -- on the bytes of those worlds
    owed_bytes : PanelOwed m b p (asked calls) (bytes_of (world before)) (bytes_of (world calls)) found
    owed_bytes = record {
      values = λ e. subst (λ (x : List ℕ). SameWritable m x (asked calls)) (sym (registers_are (world calls).chip)) (claim.values e);
      fewest = λ l v. claim.fewest l (to_values m b p (world before) (world calls) (sizes before).registers l v);
      fewest_writes = λ l v e. claim.fewest_writes l (to_values m b p (world before) (world calls) (sizes before).registers l v) e;
      own = to_bytes m b p (world before) (world calls) (sizes before).registers (list_of found) claim.own;
      own_count = claim.own_count;
      own_bytes = claim.own_bytes;
    }

    abbrev earlier : Panel
    earlier = panel_run (bytes_of w) before

    abbrev now : Panel
    now = panel_run (bytes_of w) calls

    last_so : PanelOwed m b p (entries m s (panel_told (bytes_of w) calls)) earlier now (update_leaves earlier buffer n t)
    last_so =
        subst (λ (x : List ℕ). PanelOwed m b p x earlier now (update_leaves earlier buffer n t)) (sym (ledger_is calls))
        (subst (λ (x : ListOutcome). PanelOwed m b p (asked calls) earlier now x) (sym (left_is before buffer n t))
        (subst (λ (x : Panel). PanelOwed m b p (asked calls) x now found) (sym (run_is before))
        (subst (λ (x : Panel). PanelOwed m b p (asked calls) (bytes_of (world before)) x found) (sym (run_is calls)) owed_bytes)))

  -- ---- a chip with nothing pending, whatever the last call was

  abbrev Finished : List ℕ → Panel → Type 0
  Finished asks x = writes_of (record_in x.host) ≡ [] → wants_on asks ≡ true → SameWritable m (registers_in x.chip) asks

  finished_bytes : (calls : List PanelCall) → Finished (asked calls) (bytes_of (world calls))
  finished_bytes calls none on =
      let same : record_in (record_bytes (world calls).host) ≡ (world calls).host = record_back (world calls).host (sizes calls).settings (sizes calls).image in
      subst (λ (x : List ℕ). SameWritable m x (asked calls)) (sym (registers_are (world calls).chip))
      ((holds_owes m b p so s w h (map event_of calls)).finished (ap writes_of (sym same) ∙ none) on)

  finished_so : (calls : List PanelCall) → Finished (entries m s (panel_told (bytes_of w) calls)) (panel_run (bytes_of w) calls)
  finished_so calls =
      subst (λ (x : List ℕ). Finished x (panel_run (bytes_of w) calls)) (sym (ledger_is calls))
      (subst (Finished (asked calls)) (sym (run_is calls)) (finished_bytes calls))

  -- Demand 3 is owed from there
  pub panel_owes : (calls : List PanelCall) → PanelDemand3 m b p s (bytes_of w) calls
  panel_owes calls = record {
    names = λ before behind buffer n t stored needed u. names_so calls before behind buffer n t stored needed u;
    last = λ before buffer n t stored needed u. last_so calls before buffer n t stored needed u;
    finished = finished_so calls;
  }

-- ---- after an accepted Open

module _ (m b p : ℕ) (memory : Panel) (o : PanelOpened m b p memory) where
  pub opened : accepted (open_of m b p).answer ≡ true
  opened = open_accepted m b p memory.host o.record_opened

  pub takes : opens m b p ≡ true
  unfolding open_of opens
  takes = opened

  pub start_bytes : panel_start m b p memory ≡ bytes_of (start m b p)
  start_bytes = ap₂ panel_of (open_bytes m b p memory.host o.record_opened) (at_reset_bytes m b p memory.chip o.chip_opened)

  begins : Holds m b p (reset_image m) (start m b p)
  begins = start_holds m b p takes

  -- the bytes are those of the record and the chip after the same calls by value
  pub after_bytes : (calls : List PanelCall) → panel_after m b p memory calls ≡ bytes_of (world_after m b p (map event_of calls))
  after_bytes calls = ap (λ (x : Panel). panel_run x calls) start_bytes ∙ run_is m b p takes (reset_image m) (start m b p) begins calls

  -- and the ledger is the same
  pub ledger_after_lem : (calls : List PanelCall) → panel_ledger m b p memory calls ≡ ledger_after m b p (map event_of calls)
  ledger_after_lem calls =
      ap (λ (x : Panel). ledger m (panel_told x calls)) start_bytes ∙ ledger_is m b p takes (reset_image m) (start m b p) begins calls

  module _ (calls : List PanelCall) where
    pub whole_after : Whole (world_after m b p (map event_of calls))
    whole_after = sizes m b p takes (reset_image m) (start m b p) begins calls

    -- the sizes stay
    pub record_size_lem : length (panel_after m b p memory calls).host ≡ record_size
    record_size_lem =
        ap (λ (x : Panel). length x.host) (after_bytes calls)
        ∙ record_length (world_after m b p (map event_of calls)).host whole_after.settings whole_after.image

    pub chip_size_lem : length (panel_after m b p memory calls).chip ≡ chip_size
    chip_size_lem =
        ap (λ (x : Panel). length x.chip) (after_bytes calls) ∙ chip_length (world_after m b p (map event_of calls)).chip whole_after.registers

    -- with a buffer of 1,174 bytes an Update always answers 0
    pub room : (buffer : List ℕ) (n t : ℕ) → 1174 ≤ length buffer → (update_leaves (panel_after m b p memory calls) buffer n t).answer ≡ 0
    room buffer n t k =
        ap (λ (x : Panel). (update_leaves (panel_run x calls) buffer n t).answer) start_bytes
        ∙ room_here m b p takes (reset_image m) (start m b p) begins calls buffer n t k

    -- and a chip is finished where one would answer 0 and store n = 0: the premise of `finished`
    pub none_pending : (buffer : List ℕ) (n t : ℕ) → (update_leaves (panel_after m b p memory calls) buffer n t).answer ≡ 0 →
        (update_leaves (panel_after m b p memory calls) buffer n t).n ≡ 0 → writes_of (record_in (panel_after m b p memory calls).host) ≡ []
    none_pending buffer n t =
        subst (λ (x : Panel). (update_leaves (panel_run x calls) buffer n t).answer ≡ 0 → (update_leaves (panel_run x calls) buffer n t).n ≡ 0 →
        writes_of (record_in (panel_run x calls).host) ≡ []) (sym start_bytes) (none_here m b p takes (reset_image m) (start m b p) begins calls buffer n t)

-- Demand 3 for a C program
pub panel_whole_lists : PanelWholeLists
panel_whole_lists m b p memory o calls =
    subst (λ (x : Panel). PanelDemand3 m b p (reset_image m) x calls) (sym (start_bytes m b p memory o))
    (panel_owes m b p (takes m b p memory o) (reset_image m) (start m b p) (begins m b p memory o) calls)

-- lamp by lamp
pub lamps_owed : (m b p : ℕ) (s : List ℕ) (w : Panel) (calls : List PanelCall) → PanelDemand3 m b p s w calls →
    (before : List PanelCall) (buffer : List ℕ) (n t stored needed : ℕ) → PanelUpdates w calls before [] buffer n t stored needed →
    wants_on (entries m s (panel_told w calls)) ≡ true → (l k : ℕ) → is_dot m l k ≡ true →
    SameLamp (registers_in (panel_run w calls).chip) (entries m s (panel_told w calls)) l k
lamps_owed m b p s w calls d before buffer n t stored needed u on =
    same_lamp m (registers_in (panel_run w calls).chip) (entries m s (panel_told w calls)) ((d.last before buffer n t stored needed u).values on)

-- No lamp is stale: each one reads from the chip's bytes what the ledger says.
pub no_lamp_stale : (m b p : ℕ) (memory : Panel) → PanelOpened m b p memory → (calls before : List PanelCall) (buffer : List ℕ) (n t stored needed : ℕ) →
    PanelUpdates (panel_start m b p memory) calls before [] buffer n t stored needed → wants_on (panel_ledger m b p memory calls) ≡ true → (l k : ℕ) → is_dot m l k ≡ true →
    SameLamp (registers_in (panel_after m b p memory calls).chip) (panel_ledger m b p memory calls) l k
no_lamp_stale m b p memory o calls = lamps_owed m b p (reset_image m) (panel_start m b p memory) calls (panel_whole_lists m b p memory o calls)

-- Nor is one of a chip that is finished, whatever the last call was.
pub finished_lamps : (m b p : ℕ) (memory : Panel) → PanelOpened m b p memory → (calls : List PanelCall) →
    writes_of (record_in (panel_after m b p memory calls).host) ≡ [] → wants_on (panel_ledger m b p memory calls) ≡ true → (l k : ℕ) → is_dot m l k ≡ true →
    SameLamp (registers_in (panel_after m b p memory calls).chip) (panel_ledger m b p memory calls) l k
finished_lamps m b p memory o calls none on =
    same_lamp m (registers_in (panel_after m b p memory calls).chip) (panel_ledger m b p memory calls) ((panel_whole_lists m b p memory o calls).finished none on)
