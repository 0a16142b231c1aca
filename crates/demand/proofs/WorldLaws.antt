-- What holds between a record, its chip and the ledger after every event: one lemma for all settings, one for every call that sends, and
-- what each such call has to show for it; and one for every beginning of the pending list.
-- Assumes nothing.
use Rattle.std.specs.Prelude.{◌≡◌, Bool, true, false, leb, length, take, drop, Ok, Err}
use Rattle.std.proofs.Math.Path.{refl, ap, ap₂, subst}
use Rattle.std.proofs.Common.{sym, ◌∙◌, true≢false, arith}
use Rattle.std.proofs.Math.Bool.{cond}
use mathlib.Core.List.{List, [], ◌∷◌, ◌++◌, map}
use Prim.Native.Nat.{ℕ, ◌≤◌}
use Rattle.map.specs.Refusals.{accepted, opens}
use Rattle.map.specs.RefusalLaws.{opens_member}
use Rattle.map.specs.Map.{writable_of}
use Rattle.map.specs.Images.{reset_image}
use Rattle.map.specs.ImageLaws.{Fit, Image, Registers}
use Rattle.burst.specs.Burst.{Burst, bus_bytes, encode}
use Rattle.burst.specs.BurstLaws.{AllData, AllNamed, Sendable, encode_length}
use Rattle.dots.specs.DotImages.{reset_image_lem}
use Rattle.plan.specs.Lists.{All}
use Rattle.plan.specs.Writes.{AllGood}
use Rattle.plan.specs.Update.{value_at, Agree, seen, store_all, write_of}
use Rattle.plan.proofs.UpdateLaws.{Fitting, seen_allows}
use Rattle.plan.proofs.LockLaws.{stored_outside}
use Rattle.plan.specs.Machine.{Ready}
use Rattle.plan.proofs.Heard.{Heard, follow_heard}
use Rattle.plan.proofs.Follow.{update_heard}
use Rattle.plan.specs.Portion.{Begins}
use Rattle.plan.proofs.PortionLaws.{portion_begins, begins_bytes, begins_whole, begins_all, begins_good, cut_fits, begins_heard}
use Rattle.calls.specs.declared.Setting.{Setting}
use Rattle.calls.specs.declared.Request.{Request}
use Rattle.calls.specs.declared.Request.TheVariants.{Set, Reset, PowerLost, Update, Lock}
use Rattle.host.specs.declared.Header.{Header}
use Rattle.host.specs.declared.Record.{Record}
use Rattle.host.specs.Record.{header_of, record_of, free, locked, lock_keeps, may_write, sound_of, when_sound, opened, open_host, open_of, changed_to, setting_of, sound_answer, power_lost_of, lock_answer, lock_of}
use Rattle.host.specs.RecordLaws.{may_writable, writable_may, not_locked}
use Rattle.host.specs.LockLaws.{Marks, free_marks}
use Rattle.host.proofs.SoundLaws.{Sound, is_sound, setting_sound, lock_sound}
use Rattle.update.specs.Update.{ListAnswer, listed, is_listed, list_size, over, Sending, send_answer, send_of, send_buffer, writes_of, updating, resetting}
use Rattle.update.specs.UpdateLaws.{enable_byte, image_layout, store_image, store_marks, update_fits}
use Rattle.update.specs.BoundLaws.{good_data, good_named, bus_most, names_writable}
use Rattle.chip.specs.declared.Chip.{Chip}
use Rattle.chip.specs.declared.Fed.{Fed}
use Rattle.chip.specs.Chip.{chip_of, new_chip, at_reset_of, feed_of}
use Rattle.chip.specs.ChipLaws.{reset_registers}
use Rattle.chip.specs.FeedLaws.{hear_all, hear_all_registers, feed_encoded, feed_reset, power_lost_is}
use Rattle.history.specs.declared.World.{World}
use Rattle.history.specs.Ledger.{entry, Told, entered, entries}
use Rattle.history.proofs.LedgerLaws.{locked_out, setting_enters, setting_told, enters_nothing, entries_append}
use Rattle.history.specs.Step.{list_in, fed_by, send_step, step_of}
use Rattle.history.specs.History.{Call, start}
use Rattle.demand.specs.Events.{Event, call, part, part_of, sent_to, part_step, event_step, run, world_after, tell, told, ledger_after}
use Rattle.demand.specs.MachineLaws.{machine, hear_all_is, hear_all_outside}

-- ---- lists that are answered

-- the front of the buffer is the list, so that the list alone is fed
pub front : (b p : ℕ) (xs : List Burst) (buffer : List ℕ) → list_in (length xs) (bus_bytes xs) (over (encode b p xs) buffer) ≡ encode b p xs
front b p xs buffer =
    ap (λ (k : ℕ). take k (over (encode b p xs) buffer)) (sym (encode_length b p xs)) ∙ take_front (encode b p xs) (drop (length (encode b p xs)) buffer)
  where
    take_front : (x y : List ℕ) → take (length x) (x ++ y) ≡ x
    take_front [] y = refl
    take_front (v ∷ x) y = ap (λ (z : List ℕ). v ∷ z) (take_front x y)

-- a chip is fed nothing where no list was written
not_fed : (answer : ListAnswer) (buffer : List ℕ) (c : Chip) → is_listed answer ≡ false → fed_by answer buffer c ≡ c
not_fed (Ok l) buffer c e = absurd (true≢false e)
not_fed (Err x) buffer c e = refl

-- ---- the invariant

abbrev pub world_of : ℕ → ℕ → ℕ → ℕ → List ℕ → List ℕ → List ℕ → World
world_of m b p marks settings image registers = record { host = record_of (header_of m b p marks) settings image; chip = chip_of m b p registers }

-- The record is sound and has the ledger's bytes s for its settings; the chip is sound, of the same member, bus and pins; and the
-- record's image has the chip's writable bytes, locked or not.
pub record Holds (m b p : ℕ) (s : List ℕ) (w : World) : Type 0 where
  pub marks : ℕ
  pub image : List ℕ
  pub registers : List ℕ
  pub is : w ≡ world_of m b p marks s image registers
  pub settings_fit : Image m s
  pub image_fit : Image m image
  pub marks_fit : Marks (header_of m b p marks) s image
  pub registers_fit : Registers m registers
  pub same : Agree (writable_of m) 908 (value_at image) (value_at registers)

-- What every beginning of a pending list meets: it has data, for addresses of ten bits that may be written, and 702 bytes at most.
pub record PartSendable (h : Header) (xs : List Burst) : Type 0 where
  pub some : AllData xs
  pub named : AllNamed xs
  pub good : AllGood (may_write h) 908 (map write_of xs)
  pub short : bus_bytes xs ≤ 702

module _ (m b p : ℕ) (o : opens m b p ≡ true) where
  pub start_holds : Holds m b p (reset_image m) (start m b p)
  unfolding open_of open_host opened at_reset_of new_chip opens
  start_holds = record {
    marks = free;
    image = reset_image m;
    registers = reset_image m;
    is = rw (o) refl;
    settings_fit = reset_image_lem m (opens_member m b p o);
    image_fit = reset_image_lem m (opens_member m b p o);
    marks_fit = free_marks (header_of m b p free) (reset_image m) (reset_image m) refl;
    registers_fit = reset_registers m (opens_member m b p o);
    same = λ a l k. refl;
  }

  -- a world for which it holds
  module _ (s : List ℕ) (w : World) (h : Holds m b p s w) where
    abbrev header : Header
    header = header_of m b p h.marks

    abbrev host : Record
    host = record_of header s h.image

    abbrev chip : Chip
    chip = chip_of m b p h.registers

    abbrev world : World
    world = world_of m b p h.marks s h.image h.registers

    sound : Sound host
    sound = record { opened = o; settings = h.settings_fit; image = h.image_fit; marks = h.marks_fit }

    pub is_so : sound_of host ≡ true
    is_so = is_sound host sound

    pub chip_sound : Rattle.chip.specs.ChipLaws.Sound chip
    chip_sound = record { opened = o; registers = h.registers_fit }

    -- ---- a setting

    -- the settings that it leaves are what the ledger makes of it, which is told of a 17
    setting_holds : (q : Setting) (lent : List ℕ) →
        Holds m b p (entered m s (tell world (record { request = Set q; lent = lent }))) (step_of world (Set q) lent).world
    unfolding setting_of changed_to
    setting_holds q lent =
        let new : List ℕ = entered m s (tell world (record { request = Set q; lent = lent })) in
        let e : (setting_of host q lent).host.settings ≡ new =
        setting_enters host q lent ∙ ap (λ (c : Bool). cond c (cond (locked_out header q) s (entry m s (Set q) lent)) s) is_so
        ∙ ap (λ (c : Bool). cond c s (entry m s (Set q) lent)) (sym (setting_told host is_so q lent)) in
        let left : Sound (setting_of host q lent).host = setting_sound host q lent sound in
        record {
          marks = h.marks;
          image = h.image;
          registers = h.registers;
          is = ap (λ (y : List ℕ). world_of m b p h.marks y h.image h.registers) e;
          settings_fit = subst (Image m) e left.settings;
          image_fit = h.image_fit;
          marks_fit = subst (λ (y : List ℕ). Marks header y h.image) e left.marks;
          registers_fit = h.registers_fit;
          same = h.same;
        }

    -- ---- a call that sends

    -- What it has to show: it answers no list of a short buffer, the chip takes its list, the record that it leaves has the settings, and its
    -- image the writable bytes of the chip then.
    pub record Follows (x : Sending) : Type 0 where
      pub no_list : is_listed x.short ≡ false
      pub marks : ℕ
      pub image : List ℕ
      pub leaves : x.host ≡ record_of (header_of m b p marks) s image
      pub after : List ℕ
      pub fed : (feed_of chip (encode b p x.writes)).chip ≡ chip_of m b p after
      pub image_fit : Image m image
      pub marks_fit : Marks (header_of m b p marks) s image
      pub after_fit : Registers m after
      pub follows : Agree (writable_of m) 908 (value_at image) (value_at after)

    -- nothing was sent
    stays : Holds m b p s world
    stays = subst (Holds m b p s) h.is h

    pub sent_holds : (x : Sending) → Follows x → (buffer : List ℕ) → Holds m b p s (send_step world x buffer).world
    unfolding send_of send_answer send_buffer
    sent_holds x f buffer = rw (is_so) (go (leb (list_size x.writes) (length buffer)))
      where
        sent : Holds m b p s (record { host = x.host; chip = chip_of m b p f.after })
        sent = record {
          marks = f.marks;
          image = f.image;
          registers = f.after;
          is = ap (λ (r : Record). record { host = r; chip = chip_of m b p f.after }) f.leaves;
          settings_fit = h.settings_fit;
          image_fit = f.image_fit;
          marks_fit = f.marks_fit;
          registers_fit = f.after_fit;
          same = f.follows;
        }

        answer : Bool → ListAnswer
        answer c = cond c (listed (length x.writes) (bus_bytes x.writes)) x.short

        go : (c : Bool) → Holds m b p s (record {
          host = cond (is_listed (answer c)) x.host host;
          chip = fed_by (answer c) (cond (is_listed (answer c)) (over (encode b p x.writes) buffer) buffer) chip;
        })
        go true =
            subst (λ (c : Chip). Holds m b p s (record { host = x.host; chip = c }))
            (sym (ap (λ (l : List ℕ). (feed_of chip l).chip) (front b p x.writes buffer) ∙ f.fed)) sent
        go false =
            rw f.no_list
            (subst (λ (c : Chip). Holds m b p s (record { host = host; chip = c })) (sym (not_fed x.short buffer chip f.no_list)) stays)

    -- ---- a beginning of the pending list

    pub ready : Ready (may_write header) 908 (machine header) s h.image h.registers
    ready = record {
      images = record {
        layout = image_layout header s h.settings_fit;
        size = h.image_fit.size;
        want_enable = enable_byte m (value_at s 0) h.settings_fit.member (h.settings_fit.fits 0 (omega arith));
        have_enable = enable_byte m (value_at h.image 0) h.image_fit.member (h.image_fit.fits 0 (omega arith));
      };
      same = λ a l k. h.same a l (may_writable header a k);
      sound = h.registers_fit;
      fit = λ a l k. h.settings_fit.fits a l;
    }

    module _ (xs : List Burst) (g : Begins xs (writes_of host)) where
      begun_sendable : PartSendable header xs
      begun_sendable =
          let good : AllGood (may_write header) 908 (map write_of xs) = begins_good (may_write header) 908 xs (writes_of host) g (names_writable host is_so) in
          record {
            some = good_data (may_write header) xs good;
            named = good_named (may_write header) xs good;
            good = good;
            short = omega (arith, begins_bytes xs (writes_of host) g, bus_most host is_so);
          }

      -- its data bytes fit their addresses,
      begun_fits : All (Fitting (Fit m) 908) xs
      unfolding writes_of
      begun_fits =
          begins_all (Fitting (Fit m) 908) (cut_fits (Fit m) 908) xs (writes_of host) g
          (update_fits header s h.settings_fit (seen (value_at s) (value_at h.image)))

      -- and each of them is heard
      begun_heard : Heard h.image xs
      unfolding writes_of
      begun_heard =
          begins_heard xs (writes_of host) h.image g
          (update_heard (may_write header) 908 s h.image ready.images (seen (value_at s) (value_at h.image))
          (seen_allows (may_write header) 908 (value_at s) (value_at h.image)))

      -- its list, fed to the chip
      begun_fed : feed_of chip (encode b p xs) ≡ record { answer = Ok tt; chip = chip_of m b p (hear_all m h.registers xs) }
      begun_fed =
          let ok : PartSendable header xs = begun_sendable in
          let sizes : Sendable xs = record { some = ok.some; short = omega (arith, ok.short) } in
          feed_encoded chip chip_sound xs sizes ok.named

      -- the image with its data bytes at their addresses is one, and has the writable bytes of the chip then
      begun_image : Image m (store_all xs h.image)
      begun_image = store_image m xs begun_fits h.image h.image_fit

      -- at a locked address neither changes
      begun_follows : Agree (writable_of m) 908 (value_at (store_all xs h.image)) (value_at (hear_all m h.registers xs))
      begun_follows a l k = go (lock_keeps header a) refl
        where
          go : (c : Bool) → lock_keeps header a ≡ c → value_at (store_all xs h.image) a ≡ value_at (hear_all m h.registers xs) a
          go false e =
              follow_heard (may_write header) 908 (machine header) ready.images.layout.some ready.images.layout.enable_ok xs h.registers h.image
              begun_sendable.good begun_fits begun_heard h.registers_fit h.image_fit.size ready.same a l (writable_may header a k e)
              ∙ ap (λ (rs : List ℕ). value_at rs a) (sym (hear_all_is header h.registers xs))
          go true e =
              stored_outside (may_write header) 908 xs begun_sendable.good h.image a (not_locked header a e)
              ∙ h.same a l k
              ∙ sym (hear_all_outside header h.registers xs begun_sendable.good a (not_locked header a e))

      begun_marks : Marks header s (store_all xs h.image)
      begun_marks = store_marks header s h.image h.marks_fit xs begun_sendable.good

      begun_holds : Holds m b p s (sent_to world xs)
      begun_holds = record {
        marks = h.marks;
        image = store_all xs h.image;
        registers = hear_all m h.registers xs;
        is = ap (λ (f : Fed). record { host = record_of header s (store_all xs h.image); chip = f.chip }) begun_fed;
        settings_fit = h.settings_fit;
        image_fit = begun_image;
        marks_fit = begun_marks;
        registers_fit = hear_all_registers m h.registers xs h.registers_fit;
        same = begun_follows;
      }

    -- Update sends all of it

    pub update_fed : feed_of chip (encode b p (writes_of host)) ≡ record { answer = Ok tt; chip = chip_of m b p (hear_all m h.registers (writes_of host)) }
    update_fed = begun_fed (writes_of host) (begins_whole (writes_of host))

    update_follows : Follows (updating host)
    update_follows = record {
      no_list = refl;
      marks = h.marks;
      image = store_all (writes_of host) h.image;
      leaves = refl;
      after = hear_all m h.registers (writes_of host);
      fed = ap (λ (f : Fed). f.chip) update_fed;
      image_fit = begun_image (writes_of host) (begins_whole (writes_of host));
      marks_fit = begun_marks (writes_of host) (begins_whole (writes_of host));
      after_fit = hear_all_registers m h.registers (writes_of host) h.registers_fit;
      follows = begun_follows (writes_of host) (begins_whole (writes_of host));
    }

    -- Reset

    reset_follows : Follows (resetting host)
    unfolding new_chip
    reset_follows = record {
      no_list = refl;
      marks = free;
      image = reset_image m;
      leaves = refl;
      after = reset_image m;
      fed = ap (λ (f : Fed). f.chip) (feed_reset chip chip_sound);
      image_fit = reset_image_lem m h.settings_fit.member;
      marks_fit = free_marks (header_of m b p free) s (reset_image m) refl;
      after_fit = reset_registers m h.settings_fit.member;
      follows = λ a l k. refl;
    }

    -- ---- Power lost: the chip at reset values, and the record told so

    power_holds : (lent : List ℕ) → Holds m b p s (step_of world PowerLost lent).world
    unfolding power_lost_of sound_answer when_sound new_chip
    power_holds lent = record {
      marks = free;
      image = reset_image m;
      registers = reset_image m;
      is = ap₂ (λ (r : Record) (c : Chip). record { host = r; chip = c }) (rw (is_so) refl) (power_lost_is chip chip_sound);
      settings_fit = h.settings_fit;
      image_fit = reset_image_lem m h.settings_fit.member;
      marks_fit = free_marks (header_of m b p free) s (reset_image m) refl;
      registers_fit = reset_registers m h.settings_fit.member;
      same = λ a l k. refl;
    }

    -- ---- Lock: only the mark may change

    lock_holds : (lent : List ℕ) → Holds m b p s (step_of world Lock lent).world
    unfolding lock_of
    lock_holds lent = go (accepted (lock_answer host)) refl (lock_sound host sound)
      where
        marked : Record
        marked = record_of (header_of m b p locked) s h.image

        go : (c : Bool) → accepted (lock_answer host) ≡ c → Sound (cond c marked host) → Holds m b p s (record { host = cond c marked host; chip = chip })
        go true e x = record {
          marks = locked;
          image = h.image;
          registers = h.registers;
          is = refl;
          settings_fit = h.settings_fit;
          image_fit = h.image_fit;
          marks_fit = x.marks;
          registers_fit = h.registers_fit;
          same = h.same;
        }
        go false e x = stays

    -- ---- every call

    call_holds : (c : Call) → Holds m b p (entered m s (tell world c)) (step_of world c.request c.lent).world
    call_holds c = go c.request c.lent
      where
        -- a call that is no setting leaves the ledger
        other : (request : Request) (lent : List ℕ) → entry m s request lent ≡ s → Holds m b p s (step_of world request lent).world →
            Holds m b p (entered m s (tell world (record { request = request; lent = lent }))) (step_of world request lent).world
        other request lent e k =
            subst (λ (y : List ℕ). Holds m b p y (step_of world request lent).world)
            (sym (enters_nothing m s (tell world (record { request = request; lent = lent })) e)) k

        go : (request : Request) (lent : List ℕ) →
            Holds m b p (entered m s (tell world (record { request = request; lent = lent }))) (step_of world request lent).world
        go (Set q) lent = setting_holds q lent
        go Reset lent = other Reset lent refl (sent_holds (resetting host) reset_follows lent)
        go PowerLost lent = other PowerLost lent refl (power_holds lent)
        go Update lent = other Update lent refl (sent_holds (updating host) update_follows lent)
        go Lock lent = other Lock lent refl (lock_holds lent)

  -- ---- every event

  -- after one call
  pub step_holds : (s : List ℕ) (w : World) → Holds m b p s w → (c : Call) → Holds m b p (entered m s (tell w c)) (step_of w c.request c.lent).world
  step_holds s w h c =
      subst (λ (x : World). Holds m b p (entered m s (tell x c)) (step_of x c.request c.lent).world) (sym h.is)
      (call_holds s w h c)

  module _ (s : List ℕ) (w : World) (h : Holds m b p s w) (xs : List Burst) (g : Begins xs (writes_of w.host)) where
    begins_here : Begins xs (writes_of (record_of (header_of m b p h.marks) s h.image))
    begins_here = subst (λ (x : World). Begins xs (writes_of x.host)) h.is g

    -- a beginning of the pending list may be sent,
    pub begins_sendable : PartSendable (header_of m b p h.marks) xs
    begins_sendable = begun_sendable s w h xs begins_here

    -- and the ledger hears nothing of it
    pub begins_holds : Holds m b p s (sent_to w xs)
    begins_holds = subst (λ (x : World). Holds m b p s (sent_to x xs)) (sym h.is) (begun_holds s w h xs begins_here)

  -- after one event, and so after any list of them
  pub event_holds : (s : List ℕ) (w : World) → Holds m b p s w → (e : Event) → Holds m b p (entries m s (told w (e ∷ []))) (event_step w e)
  event_holds s w h (call c) = step_holds s w h c
  event_holds s w h (part room) = begins_holds s w h (part_of w room) (portion_begins room (writes_of w.host))

  pub run_holds : (events : List Event) (s : List ℕ) (w : World) → Holds m b p s w → Holds m b p (entries m s (told w events)) (run w events)
  run_holds [] s w h = h
  run_holds (call c ∷ es) s w h = run_holds es (entered m s (tell w c)) (event_step w (call c)) (event_holds s w h (call c))
  run_holds (part room ∷ es) s w h = run_holds es s (part_step w room) (event_holds s w h (part room))

  pub history_holds : (events : List Event) → Holds m b p (ledger_after m b p events) (world_after m b p events)
  history_holds events = run_holds events (reset_image m) (start m b p) start_holds

  -- the header is always the opened one, but for its marks,
  pub header_after : (events : List Event) → (world_after m b p events).host.header ≡ header_of m b p (world_after m b p events).host.header.marks
  header_after events =
      let h = history_holds events in
      ap (λ (w : World). w.host.header) h.is ∙ ap (header_of m b p) (sym (ap (λ (w : World). w.host.header.marks) h.is))

  -- so that the addresses that may be written are always among the member's writable ones
  pub may_write_after : (events : List Event) (a : ℕ) → may_write (world_after m b p events).host.header a ≡ true → writable_of m a ≡ true
  may_write_after events a e =
      ap (λ (h : Header). writable_of h.member a) (sym (header_after events)) ∙ may_writable (world_after m b p events).host.header a e

-- ---- lists of events

-- the call that the ledger was told of
abbrev call_of : Told → Call
call_of x = record { request = x.request; lent = x.lent }

-- the calls among them
abbrev pub calls_in : List Event → List Call
calls_in [] = []
calls_in (call c ∷ es) = c ∷ calls_in es
calls_in (part room ∷ es) = calls_in es

-- "of each 17, of no other answer": whatever the world, the ledger is told the calls, and beside each of them one bit
pub told_calls : (events : List Event) (w : World) → map call_of (told w events) ≡ calls_in events
told_calls [] w = refl
told_calls (call c ∷ es) w = ap (λ (xs : List Call). c ∷ xs) (told_calls es (event_step w (call c)))
told_calls (part room ∷ es) w = told_calls es (part_step w room)

-- that bit goes by the record alone, whatever its chip is
pub tell_alone : (w : World) (d : Chip) (c : Call) → tell (record { host = w.host; chip = d }) c ≡ tell w c
tell_alone w d c = go c.request c.lent
  where
    go : (request : Request) (lent : List ℕ) →
        tell (record { host = w.host; chip = d }) (record { request = request; lent = lent }) ≡ tell w (record { request = request; lent = lent })
    go (Set q) lent = refl
    go Reset lent = refl
    go PowerLost lent = refl
    go Update lent = refl
    go Lock lent = refl

-- and so do the record that a call or a part leaves,
step_alone : (w : World) (c : Chip) (request : Request) (lent : List ℕ) →
    (step_of (record { host = w.host; chip = c }) request lent).world.host ≡ (step_of w request lent).world.host
step_alone w c (Set q) lent = refl
step_alone w c Reset lent = refl
step_alone w c PowerLost lent = refl
step_alone w c Update lent = refl
step_alone w c Lock lent = refl

event_alone : (w : World) (c : Chip) (e : Event) → (event_step (record { host = w.host; chip = c }) e).host ≡ (event_step w e).host
event_alone w c (call x) = step_alone w c x.request x.lent
event_alone w c (part room) = refl

-- so that worlds with one record go on with one record,
pub record_alone : (events : List Event) (w : World) (c : Chip) → (run (record { host = w.host; chip = c }) events).host ≡ (run w events).host
record_alone [] w c = refl
record_alone (e ∷ es) w c =
    let other : World = event_step (record { host = w.host; chip = c }) e in
    ap (λ (r : Record). (run (record { host = r; chip = other.chip }) es).host) (event_alone w c e)
    ∙ record_alone es (event_step w e) other.chip

-- and tell the ledger the same
pub told_alone : (events : List Event) (w : World) (c : Chip) → told (record { host = w.host; chip = c }) events ≡ told w events
told_alone [] w c = refl
told_alone (call x ∷ es) w c =
    let other : World = event_step (record { host = w.host; chip = c }) (call x) in
    ap₂ (λ (y : Told) (ys : List Told). y ∷ ys) (tell_alone w c x)
    (ap (λ (r : Record). told (record { host = r; chip = other.chip }) es) (event_alone w c (call x)) ∙ told_alone es (event_step w (call x)) other.chip)
told_alone (part room ∷ es) w c = told_alone es (part_step w room) (part_step (record { host = w.host; chip = c }) room).chip

pub run_append : (xs ys : List Event) (w : World) → run w (xs ++ ys) ≡ run (run w xs) ys
run_append [] ys w = refl
run_append (x ∷ xs) ys w = run_append xs ys (event_step w x)

pub told_append : (xs ys : List Event) (w : World) → told w (xs ++ ys) ≡ told w xs ++ told (run w xs) ys
told_append [] ys w = refl
told_append (call c ∷ xs) ys w = ap (λ (l : List Told). tell w c ∷ l) (told_append xs ys (event_step w (call c)))
told_append (part room ∷ xs) ys w = told_append xs ys (part_step w room)

-- the ledger of events behind others
pub ledger_append : (m : ℕ) (s : List ℕ) (w : World) (xs ys : List Event) →
    entries m s (told w (xs ++ ys)) ≡ entries m (entries m s (told w xs)) (told (run w xs) ys)
ledger_append m s w xs ys = ap (entries m s) (told_append xs ys w) ∙ entries_append m (told w xs) (told (run w xs) ys) s
