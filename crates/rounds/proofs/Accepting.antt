-- What a round answers by its refusals and by what was dealt out, and what it leaves.
-- Assumes nothing.
use Rattle.std.proofs.Common.{◌≡◌, refl, sym, ap, ap₂, ◌∙◌, subst, Bool, true, false, cond, ◌&&◌, List, [], ◌∷◌, ℕ, zero, suc, ◌+◌, ◌*◌, ◌≤◌, ◌<◌, length, map, sum, Result, Ok, Err, leb, arith}
use borrow.Author.Tests.{le-leb, lt-leb}
use Rattle.map.specs.declared.refusals.Refusal.{Refusal}
use Rattle.map.specs.Refusals.{Answer}
use Rattle.map.specs.declared.refusals.Refusal.TheVariants.{BufferShort, Unsound, RoundLimit, NotItsPlace}
use Rattle.burst.specs.Burst.{Burst}
use Rattle.plan.specs.Update.{store_all}
use Rattle.host.specs.declared.Record.{Record}
use Rattle.host.specs.declared.RecordRef.{RecordRef}
use Rattle.host.specs.Record.{record_of, record_behind}
use Rattle.host.proofs.SoundLaws.{sound_is}
use Rattle.writes.specs.WrittenLaws.{sets_front}
use Rattle.update.specs.Update.{ListAnswer, listed, refused, is_listed}
use Rattle.rounds.specs.declared.dealing.Dealt.{Dealt}
use Rattle.rounds.specs.declared.Rounded.{Rounded}
use Rattle.rounds.specs.Round.{count_all, bytes_all, round_size, round_list, part_at, least_limit, most_limit, every_place, takes, round_parts, present_sound, present_placed, round_answer, round_record, round_buffer, round_of, present_at, record_at, round_room}
use Rattle.rounds.proofs.ListLaws.{round_length}
use Rattle.rounds.proofs.DealLaws.{Takes, round_takes, part_is}
use Rattle.rounds.specs.AbsentLaws.{refused_kept, refused_buffer}
use Rattle.rounds.specs.Dealing.{AllWait, AllPlaced, DealtAre, Planned, Refusing, round_refusal, RoundPut, image_at, ImagesAfter, records_of, CopiesOf, with_images}
use Rattle.rounds.proofs.Shares.{absent_part, bytes_sum}

module _ (present : ℕ → Bool) (records : ℕ → Record) (limit : ℕ) where
  abbrev parts : List (List Burst)
  parts = round_parts present records limit

  -- the answer where 14, 15 and 16 do not apply
  abbrev by_list : ℕ → ListAnswer
  by_list size = cond (leb (round_size parts) size) (listed (count_all parts) (bytes_all parts)) (refused BufferShort)

  by_refusal : Answer → ℕ → ListAnswer
  by_refusal (Ok u) size = by_list size
  by_refusal (Err x) size = refused x

  answer_by : (size : ℕ) → round_answer present records limit size ≡ by_refusal (round_refusal present records limit) size
  unfolding round_answer round_refusal by_refusal
  answer_by size = go (every_place (present_sound present records)) (leb least_limit limit && leb limit most_limit) (every_place (present_placed present records))
    where
      go : (a b c : Bool) →
          cond a (cond b (cond c (by_list size) (refused NotItsPlace)) (refused RoundLimit)) (refused Unsound)
          ≡ by_refusal (cond a (cond b (cond c (Ok (tt {0})) (Err NotItsPlace)) (Err RoundLimit)) (Err Unsound)) size
      go true true true = refl
      go true true false = refl
      go true false c = refl
      go false b c = refl

  -- ---- 14, 15 and 16

  pub refused_answer : (x : Refusal) (size : ℕ) → round_refusal present records limit ≡ Err x → Refusing limit size present records x
  unfolding by_refusal
  refused_answer x size e = answer_by size ∙ ap (λ (r : Answer). by_refusal r size) e

  module _ (u : Unit {0}) (e : round_refusal present records limit ≡ Ok u) where
    accepted_answer : (size : ℕ) → round_answer present records limit size ≡ by_list size
    unfolding by_refusal
    accepted_answer size = answer_by size ∙ ap (λ (r : Answer). by_refusal r size) e

    pub accepted_waits : AllWait present records × AllPlaced present records × (limit ≤ 4096)
    accepted_waits =
        let t = round_takes present records limit (round_size parts)
        (ap is_listed (accepted_answer (round_size parts) ∙ ap (λ (b : Bool). cond b (listed (count_all parts) (bytes_all parts)) (refused BufferShort)) (le-leb (round_size parts) (round_size parts) (omega arith)))) in
        (λ j h p. sound_is (records j) (t.sound j h p), record { bus = t.bus; pins = t.pins }, t.most)

  -- ---- 10

  module _ (x : Dealt) (d : DealtAre limit present records x) (size : ℕ) (u : Unit {0}) (e : round_refusal present records limit ≡ Ok u) where
    total : sum x.bytes ≡ bytes_all parts
    total = ap sum d.bytes_are ∙ bytes_sum parts

    pub short_answer : size < 4 + 2 * x.writes + sum x.bytes → Refusing limit size present records BufferShort
    short_answer h =
        accepted_answer u e size
        ∙ ap (λ (b : Bool). cond b (listed (count_all parts) (bytes_all parts)) (refused BufferShort))
        (lt-leb (round_size parts) size (omega (arith, total, d.writes_are)))

    pub listed_plan : 4 + 2 * x.writes + sum x.bytes ≤ size → Planned limit size present records x
    listed_plan h =
        let w = accepted_waits u e in
        record {
          waits = w.0;
          placed = w.1;
          dealt = d;
          most = w.2;
          answer =
              accepted_answer u e size
              ∙ ap (λ (b : Bool). cond b (listed (count_all parts) (bytes_all parts)) (refused BufferShort))
              (le-leb (round_size parts) size (omega (arith, total, d.writes_are)))
              ∙ ap₂ (λ (n t : ℕ). listed n t) (sym d.writes_are) (sym total);
        }

  -- ---- what it leaves

  -- a refused round leaves the buffer and the copies
  pub refused_leaves : (buffer : List ℕ) (images : List (List ℕ)) (x : Refusal) → Refusing limit (length buffer) present records x →
      (buffer ≡ round_buffer present records limit buffer) × ImagesAfter present records limit (length buffer) images images
  refused_leaves buffer images x f =
      let e = ap is_listed f in (
        sym (refused_buffer present records limit buffer e),
        λ k h c. c ∙ ap (λ (r : Record). r.image) (sym (refused_kept present records limit (length buffer) k e)),
      )

  -- an accepted one puts its list, and the copies take what is sent
  module _ (buffer after : List ℕ) (old new : List (List ℕ)) (e : is_listed (round_answer present records limit (length buffer)) ≡ true)
      (p : RoundPut parts buffer after old new) where
    fits : length (round_list parts) ≤ length buffer
    fits = omega (arith, round_length parts, (round_takes present records limit (length buffer) e).room)

    image : (k : ℕ) → k < 4 → store_all (part_at parts k) (records k).image ≡ (round_record present records limit (length buffer) k).image
    unfolding round_record
    image k h = go (present k) refl
      where
        next : Record
        next = takes (records k) (part_at parts k)

        chosen : (b : Bool) → present k ≡ b →
            cond (is_listed (round_answer present records limit (length buffer)) && present k) next (records k) ≡ cond b next (records k)
        chosen b t = ap₂ (λ (x y : Bool). cond (x && y) next (records k)) e t

        none : present k ≡ false → part_at parts k ≡ []
        none t = part_is present records limit k h ∙ absent_part (round_room present records limit k) (present k) (records k) t

        go : (b : Bool) → present k ≡ b →
            store_all (part_at parts k) (records k).image ≡ (cond (is_listed (round_answer present records limit (length buffer)) && present k) next (records k)).image
        go true t = ap (λ (r : Record). r.image) (sym (chosen true t))
        go false t = ap (λ (xs : List Burst). store_all xs (records k).image) (none t) ∙ ap (λ (r : Record). r.image) (sym (chosen false t))

    pub listed_leaves : (after ≡ round_buffer present records limit buffer) × ImagesAfter present records limit (length buffer) old new
    unfolding round_buffer
    listed_leaves = (
      p.written ∙ rw e (sets_front (round_list parts) buffer fits),
      λ k h c. p.taken k h ∙ ap (store_all (part_at parts k)) c ∙ image k h,
    )

-- ---- Four records by value

-- a round changes the image of a record alone
image_alone : (present : ℕ → Bool) (records : ℕ → Record) (limit size k : ℕ) →
    record_of (records k).header (records k).settings (round_record present records limit size k).image ≡ round_record present records limit size k
unfolding round_record
image_alone present records limit size k = go (is_listed (round_answer present records limit size) && present k)
  where
    next : Record
    next = takes (records k) (part_at (round_parts present records limit) k)

    go : (b : Bool) → record_of (records k).header (records k).settings (cond b next (records k)).image ≡ cond b next (records k)
    go true = refl
    go false = refl

pub round_by_value : (records : List Record) (present : List Bool) (limit size : ℕ) (rs : List RecordRef) (old new : List (List ℕ)) (answer : ListAnswer)
    (after : List Record) → map record_behind rs ≡ records → CopiesOf records old →
    answer ≡ round_answer (present_at present) (records_of rs) limit size → ImagesAfter (present_at present) (records_of rs) limit size old new →
    after ≡ with_images records new → ◌≡◌ {A = Rounded} (record { answer = answer; records = after }) (round_of records present limit size)
unfolding round_of
round_by_value records present limit size rs old new answer after er eo ea ei ew =
    ap₂ (λ (a : ListAnswer) (l : List Record). record { answer = a; records = l })
    (ea ∙ ap (λ (l : List Record). round_answer (present_at present) (record_at l) limit size) er) (ew ∙ four)
  where
    left : ℕ → Record
    left k = round_record (present_at present) (record_at records) limit size k

    taken : ImagesAfter (present_at present) (record_at records) limit size old new
    taken = subst (λ (l : List Record). ImagesAfter (present_at present) (record_at l) limit size old new) er ei

    one : (k : ℕ) → k < 4 → record_of (record_at records k).header (record_at records k).settings (image_at new k) ≡ left k
    one k h =
        ap (record_of (record_at records k).header (record_at records k).settings) (taken k h (eo k h))
        ∙ image_alone (present_at present) (record_at records) limit size k

    four : with_images records new ≡ left 0 ∷ left 1 ∷ left 2 ∷ left 3 ∷ []
    four = rw (one 0 (omega arith), one 1 (omega arith), one 2 (omega arith), one 3 (omega arith)) refl
