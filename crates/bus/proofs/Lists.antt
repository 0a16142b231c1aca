-- The list that a round answers, at the chips of the four places.
-- Assumes nothing.
use mathlib.Core.Path.{◌≡◌, refl, sym, ap, ap₂, ◌∙◌, subst}
use mathlib.Core.Bool.{Bool, true, false, cond, ◌&&◌}
use mathlib.Core.List.{List}
use Rattle.std.specs.Prelude.{Ok, Err}
use Prim.Native.Nat.{ℕ, zero, suc, ◌+◌, ◌*◌, ◌≤◌, ◌<◌}
use native.Mathlib.Omega.{arith}
use lib.ListN.{length, take, drop, length-append, length-drop}
use lib.Seq.{length-take-le, take-append_seam}
use Rattle.burst.specs.Burst.{Burst}
use Rattle.update.specs.declared.Listed.{Listed}
use Rattle.update.specs.Update.{ListAnswer, listed, is_listed, over}
use Rattle.host.specs.declared.Record.{Record}
use Rattle.chip.specs.Chip.{feed_of}
use Rattle.rounds.specs.declared.Rounded.{Rounded}
use Rattle.rounds.specs.Round.{round_list, round_parts, round_answer, round_record, round_buffer, round_of, present_at, record_at, takes, part_at, count_all, bytes_all}
use Rattle.rounds.proofs.ListLaws.{round_length}
use Rattle.rounds.proofs.DealLaws.{round_takes}
use Rattle.rounds.specs.AbsentLaws.{parts_same, answer_same, buffer_same, refused_kept}
use Rattle.history.specs.declared.World.{World}
use Rattle.history.specs.Step.{list_in, Within}
use Rattle.bus.specs.Bus.{hosts_of, on_bus, round_world, world_at, panels_of, records_in, rounded_of, heard_by, all_hear, heard_list}
use Rattle.bus.proofs.AtPlaces.{panels_back}

-- ---- the round

-- the answer has room for its list in the buffer
pub round_within : (present : ℕ → Bool) (records : ℕ → Record) (limit size : ℕ) → Within (round_answer present records limit size) size
round_within present records limit size = go (round_answer present records limit size) refl
  where
    parts : List (List Burst)
    parts = round_parts present records limit

    go : (a : ListAnswer) → round_answer present records limit size ≡ a → Within a size
    go (Ok l) e =
        let q = round_takes present records limit size (ap is_listed e) in
        let same : ◌≡◌ {A = ListAnswer} (Ok l) (listed (count_all parts) (bytes_all parts)) = sym e ∙ q.answer in
        let el : l ≡ record { n = count_all parts; t = bytes_all parts } = cc in
        omega (arith, q.room, ap (λ (x : Listed). x.n) el, ap (λ (x : Listed). x.t) el)
    go (Err x) e = tt

-- and the buffer keeps its length
pub round_kept : (present : ℕ → Bool) (records : ℕ → Record) (limit : ℕ) (buffer : List ℕ) → length (round_buffer present records limit buffer) ≡ length buffer
unfolding round_buffer
round_kept present records limit buffer = go (is_listed (round_answer present records limit (length buffer))) refl
  where
    list : List ℕ
    list = round_list (round_parts present records limit)

    go : (b : Bool) → is_listed (round_answer present records limit (length buffer)) ≡ b → length (cond b (over list buffer) buffer) ≡ length buffer
    go true e =
        omega (
          arith,
          length-append list (drop (length list) buffer),
          length-drop (length list) buffer,
          round_length (round_parts present records limit),
          (round_takes present records limit (length buffer) e).room,
        )
    go false e = refl

-- so of what the call gives back
pub answer_within : (r : List Record) (present : List Bool) (limit : ℕ) (buffer after : List ℕ) (u : Rounded) → u ≡ round_of r present limit (length buffer) →
    after ≡ round_buffer (present_at present) (record_at r) limit buffer → Within u.answer (length after)
unfolding round_of
answer_within r present limit buffer after u eu ea =
    let kept : length after ≡ length buffer = ap length ea ∙ round_kept (present_at present) (record_at r) limit buffer in
    subst (λ (k : ℕ). Within u.answer k) (sym kept)
    (subst (λ (a : ListAnswer). Within a (length buffer)) (sym (ap (λ (y : Rounded). y.answer) eu)) (round_within (present_at present) (record_at r) limit (length buffer)))

panels_same : (f g : ℕ → World) → ((k : ℕ) → k < 4 → f k ≡ g k) → panels_of f ≡ panels_of g
panels_same f g e = rw (e 0 (omega arith), e 1 (omega arith), e 2 (omega arith), e 3 (omega arith)) refl

-- records that are the same at each place are left the same
module _ (present : ℕ → Bool) (f g : ℕ → Record) (same : (k : ℕ) → k < 4 → f k ≡ g k) (limit : ℕ) where
  pub answer_so : (size : ℕ) → round_answer present f limit size ≡ round_answer present g limit size
  answer_so size = answer_same present f g (λ k l e. same k l) limit size

  pub buffer_so : (buffer : List ℕ) → round_buffer present f limit buffer ≡ round_buffer present g limit buffer
  buffer_so buffer = buffer_same present f g (λ k l e. same k l) limit buffer

  pub record_so : (size k : ℕ) → k < 4 → round_record present f limit size k ≡ round_record present g limit size k
  unfolding round_record
  record_so size k h =
      ap₂ (λ (a : ListAnswer) (parts : List (List Burst)). cond (is_listed a && present k) (takes (f k) (part_at parts k)) (f k)) (answer_so size)
      (parts_same present f g (λ j l e. same j l) limit)
      ∙ ap (λ (r : Record). cond (is_listed (round_answer present g limit size) && present k) (takes r (part_at (round_parts present g limit) k)) r) (same k h)

module _ (x : List World) (four : length x ≡ 4) (present : List Bool) (limit : ℕ) (buffer : List ℕ) where
  abbrev p : ℕ → Bool
  p = present_at present

  abbrev hosts : ℕ → Record
  hosts = hosts_of (world_at x)

  abbrev size : ℕ
  size = length buffer

  abbrev answer : ListAnswer
  answer = round_answer p hosts limit size

  abbrev list : List ℕ
  list = round_list (round_parts p hosts limit)

  same_hosts : (k : ℕ) → k < 4 → record_at (records_in x) k ≡ hosts k
  same_hosts zero h = refl
  same_hosts (suc zero) h = refl
  same_hosts (suc (suc zero)) h = refl
  same_hosts (suc (suc (suc zero))) h = refl
  same_hosts (suc (suc (suc (suc k)))) h = absurd (omega arith)

  -- the first 4 + 2n + t bytes of the buffer are the list
  list_in_lem : is_listed answer ≡ true → (l : Listed) → answer ≡ Ok l → list_in l.n l.t (round_buffer p hosts limit buffer) ≡ list
  unfolding round_buffer
  list_in_lem e l f =
      let parts : List (List Burst) = round_parts p hosts limit in
      let q = round_takes p hosts limit size e in
      let same : ◌≡◌ {A = ListAnswer} (Ok l) (listed (count_all parts) (bytes_all parts)) = sym f ∙ q.answer in
      let el : l ≡ record { n = count_all parts; t = bytes_all parts } = cc in
      let long : 4 + 2 * l.n + l.t ≡ length list = omega (arith, round_length parts, ap (λ (x : Listed). x.n) el, ap (λ (x : Listed). x.t) el) in
      ap (λ (b : Bool). take (4 + 2 * l.n + l.t) (cond b (over list buffer) buffer)) e
      ∙ ap (λ (k : ℕ). take k (over list buffer)) long
      ∙ take-append_seam list (drop (length list) buffer)

  -- what the chips hear of an answer, with the records that the round leaves
  abbrev left : ℕ → World
  left = round_world p limit size (world_at x)

  -- a refused round leaves the panels
  kept : is_listed answer ≡ false → x ≡ panels_of left
  kept off =
      panels_back x four
      ∙ panels_same (world_at x) left
      (λ k l.
      ap₂ (λ (h : Record) (b : Bool). record { host = h; chip = cond (b && on_bus (world_at x k).chip k) (feed_of (world_at x k).chip list).chip (world_at x k).chip })
      (sym (refused_kept p hosts limit size k off)) (sym off))

  heard_so : (r : List Record) → ((k : ℕ) → k < 4 → record_at r k ≡ round_record p hosts limit size k) → (a : ListAnswer) → answer ≡ a →
      heard_list a x r (round_buffer p hosts limit buffer) ≡ panels_of left
  heard_so r e (Ok l) f =
      let on : is_listed answer ≡ true = ap is_listed f in
      ap (all_hear x r) (list_in_lem on l f)
      ∙ panels_same (λ k. heard_by k (world_at x k) (record_at r k) list) left
      (λ k l. ap₂ (λ (h : Record) (b : Bool). record { host = h; chip = cond (b && on_bus (world_at x k).chip k) (feed_of (world_at x k).chip list).chip (world_at x k).chip })
      (e k l) (sym on))
  heard_so r e (Err y) f = kept (ap is_listed f)

  in_place : (k : ℕ) → k < 4 → record_at (round_of (records_in x) present limit size).records k ≡ round_record p (record_at (records_in x)) limit size k
  unfolding round_of
  in_place zero l = refl
  in_place (suc zero) l = refl
  in_place (suc (suc zero)) l = refl
  in_place (suc (suc (suc zero))) l = refl
  in_place (suc (suc (suc (suc k)))) l = absurd (omega arith)

  pub bus_round : (r : List Record) → r ≡ records_in x → (after : List ℕ) (u : Rounded) (panels : List World) → u ≡ round_of r present limit size →
      after ≡ round_buffer p (record_at r) limit buffer → panels ≡ heard_list u.answer x u.records after →
      (record { answer = u.answer; panels = panels } ≡ rounded_of x p limit size) × (after ≡ round_buffer p hosts limit buffer)
  unfolding round_of rounded_of
  bus_round r er after u panels eu₀ ea₀ ep =
      let eu : u ≡ round_of (records_in x) present limit size = eu₀ ∙ ap (λ (y : List Record). round_of y present limit size) er in
      let ea : after ≡ round_buffer p (record_at (records_in x)) limit buffer = ea₀ ∙ ap (λ (y : List Record). round_buffer p (record_at y) limit buffer) er in
      let buffers = ea ∙ buffer_so p (record_at (records_in x)) hosts same_hosts limit buffer in
      let answers : u.answer ≡ answer = ap (λ (y : Rounded). y.answer) eu ∙ answer_so p (record_at (records_in x)) hosts same_hosts limit size in
      let records : (k : ℕ) → k < 4 → record_at u.records k ≡ round_record p hosts limit size k =
      λ k l. ap (λ (y : Rounded). record_at y.records k) eu ∙ in_place k l ∙ record_so p (record_at (records_in x)) hosts same_hosts limit size k l in
      let heard = ep ∙ ap₂ (λ (a : ListAnswer) (b : List ℕ). heard_list a x u.records b) answers buffers ∙ heard_so u.records records answer refl in
      (ap₂ (λ (a : ListAnswer) (y : List World). record { answer = a; panels = y }) answers heard, buffers)
