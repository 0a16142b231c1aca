-- The claims about Clear hold, by the chip's laws about its writes: `clear_claim` and `cleared_lists`.
-- Assumes nothing.
use Rattle.std.specs.Prelude.{◌≡◌, true, ℕ, ◌≤◌, length}
use Rattle.std.proofs.Math.Path.{refl, ap, ap₂}
use Rattle.std.proofs.Common.{sym, ◌∙◌, subst, arith}
use Rattle.std.proofs.lemmas.Bool.{false≢true}
use mathlib.Core.List.{List, [], ◌∷◌}
use Rattle.map.specs.Refusals.{opens}
use Rattle.map.specs.Map.{writable_of}
use Rattle.map.specs.ByteLaws.{middle_unwritable}
use Rattle.map.specs.Images.{reset_image}
use Rattle.burst.specs.Burst.{Burst, encode}
use Rattle.host.specs.declared.Record.{Record}
use Rattle.host.specs.Record.{header_of, record_of}
use Rattle.update.specs.Update.{ListAnswer, send_of, clearing}
use Rattle.update.specs.SendLaws.{send_listed, clear_leaves}
use Rattle.chip.specs.declared.Chip.{Chip}
use Rattle.chip.specs.Chip.{chip_of, hear, feed_of}
use Rattle.chip.specs.ChipLaws.{sound_is, hear_registers}
use Rattle.chip.specs.ClearLaws.{lod_write, lsd_write, clear_write, hear_clear_outside, fed, fed_clear, FedBoth, fed_both}
use Rattle.history.specs.declared.World.{World}
use Rattle.history.specs.Ledger.{entries}
use Rattle.history.specs.Step.{fed_by, clear_step}
use Rattle.history.specs.History.{start}
use Rattle.demand.specs.Events.{Event, run, told, ledger_after}
use Rattle.demand.proofs.WorldLaws.{front, Holds, Follows, chip_sound, start_holds, sent_holds, run_holds, told_alone, ledger_append}
use Rattle.demand.proofs.Theorem.{holds_owes, opened}
use Rattle.demand.specs.Clear.{Paired, ClearClaim, Stretch, run_clears, events_of, ClearedLists}

-- ---- the chip after a Clear

module _ (w : World) (p : Paired w) where
  -- the record's heads are the chip's own
  own : (b : Burst) (c : Chip) → c.bus ≡ w.chip.bus → c.pins ≡ w.chip.pins →
      (feed_of c (encode w.host.header.bus w.host.header.pins (b ∷ []))).chip ≡ fed c b
  own b c e f =
      ap₂ (λ (x y : ℕ). (feed_of c (encode x y (b ∷ []))).chip) (sym (e ∙ p.bus)) (sym (f ∙ p.pins))

  -- what the step feeds
  step_fed : (buffer : List ℕ) → 10 ≤ length buffer → (clear_step w buffer).world.chip ≡ fed w.chip clear_write
  unfolding send_of
  step_fed buffer h =
      let l = send_listed w.host (clearing w.host) buffer p.host_sound h in
      ap₂ (λ (answer : ListAnswer) (new : List ℕ). fed_by answer new w.chip) (sym l.answer_is) (sym l.buffer_is)
      ∙ ap (λ (list : List ℕ). (feed_of w.chip list).chip) (front w.host.header.bus w.host.header.pins (clear_write ∷ []) buffer)
      ∙ own clear_write w.chip refl refl

pub clear_claim : ClearClaim
unfolding feed_of
clear_claim w p buffer h = (
  record {
    opens_first = step_fed w p buffer h ∙ sym both.opens_first ∙ sym (twice lod_write lsd_write);
    shorts_first = step_fed w p buffer h ∙ sym both.shorts_first ∙ sym (twice lsd_write lod_write);
    host_stays = clear_leaves w.host (length buffer);
  },
  λ e. record {
    opens = own w p lod_write w.chip refl refl ∙ (both.standby e).0;
    shorts = own w p lsd_write w.chip refl refl ∙ (both.standby e).1;
    both = step_fed w p buffer h ∙ (both.standby e).2;
  },
)
  where
    both : FedBoth w.chip
    both = fed_both w.chip (sound_is w.chip p.chip_sound)

    feeds : Burst → Chip → Chip
    feeds b c = (feed_of c (encode w.host.header.bus w.host.header.pins (b ∷ []))).chip

    twice : (a b : Burst) → feeds b (feeds a w.chip) ≡ fed (fed w.chip a) b
    twice a b = ap (feeds b) (own w p a w.chip refl refl) ∙ own w p b (fed w.chip a) refl refl

-- ---- Clears among the events of demand 3

-- no address from 064h to 0A6h is writable
apart : (m a : ℕ) → writable_of m a ≡ true → 0x064 ≤ a → a ≤ 0x0A6 → ⊥
apart m a k l h = false≢true (sym (middle_unwritable m a l (omega arith)) ∙ k)

module _ (m b p : ℕ) (o : opens m b p ≡ true) where
  -- a Clear keeps what holds after every event
  clear_holds : (s : List ℕ) (w : World) → Holds m b p s w → (buffer : List ℕ) → Holds m b p s (clear_step w buffer).world
  clear_holds s w h buffer =
      let host : Record = record_of (header_of m b p h.marks) s h.image in
      let after : List ℕ = hear m h.registers clear_write in
      let follows : Follows m b p o s w h (clearing host) = record {
        no_list = refl;
        marks = h.marks;
        image = h.image;
        leaves = refl;
        after = after;
        fed = fed_clear (chip_of m b p h.registers) (chip_sound m b p o s w h);
        image_fit = h.image_fit;
        marks_fit = h.marks_fit;
        after_fit = hear_registers m h.registers clear_write h.registers_fit;
        follows = λ a l k. h.same a l k ∙ sym (hear_clear_outside m h.registers a (apart m a k));
      } in
      subst (λ (x : World). Holds m b p s (clear_step x buffer).world) (sym h.is) (sent_holds m b p o s w h (clearing host) follows buffer)

  -- it leaves the record, so that the ledger is told the same behind it
  clear_told : (w : World) (buffer : List ℕ) (es : List Event) → told (clear_step w buffer).world es ≡ told w es
  clear_told w buffer es =
      ap (λ (r : Record). told (record { host = r; chip = (clear_step w buffer).world.chip }) es) (clear_leaves w.host (length buffer))
      ∙ told_alone es w (clear_step w buffer).world.chip

  stretches_hold : (xs : List Stretch) (s : List ℕ) (w : World) → Holds m b p s w → Holds m b p (entries m s (told w (events_of xs))) (run_clears w xs)
  stretches_hold [] s w h = h
  stretches_hold (x ∷ xs) s w h =
      let ran : World = run w x.events in
      let asked : List ℕ = entries m s (told w x.events) in
      let rest = stretches_hold xs asked (clear_step ran x.buffer).world (clear_holds asked ran (run_holds m b p o x.events s w h) x.buffer) in
      subst (λ (l : List ℕ). Holds m b p l (run_clears w (x ∷ xs)))
      (ap (entries m asked) (clear_told ran x.buffer (events_of xs)) ∙ sym (ledger_append m s w x.events (events_of xs))) rest

pub cleared_lists : ClearedLists
cleared_lists m b p e xs behind =
    let o = opened m b p e in
    holds_owes m b p o (ledger_after m b p (events_of xs)) (run_clears (start m b p) xs)
    (stretches_hold m b p o xs (reset_image m) (start m b p) (start_holds m b p o)) behind
