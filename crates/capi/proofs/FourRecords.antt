-- A round on four records' bytes: what it reads of them, and what its images leave of them.
-- Assumes nothing.
use mathlib.Core.Path.{◌≡◌, refl, sym, ap, ap₂, ◌∙◌, subst}
use mathlib.Core.Bool.{Bool, true, false, cond, ◌&&◌}
use mathlib.Core.List.{List, [], ◌∷◌, ◌++◌, append_assoc, append-nil}
use Prim.Native.Nat.{ℕ, zero, suc, ◌+◌, ◌-◌, ◌*◌, ◌<◌, ◌≤◌, ◌^◌}
use native.Mathlib.Nat.{add_assoc}
use native.Mathlib.Numerals.{add-one}
use native.Mathlib.Omega.{arith}
use lib.Dec.{leb}
use lib.ListN.{length, get_or, take, drop, length-append, length-drop}
use lib.Seq.{drop-drop, take_at, drop_at, take-append-add, drop-append-add}
use Rattle.map.specs.declared.refusals.Refusal.TheVariants.{BufferShort, Unsound, RoundLimit, NotItsPlace}
use Rattle.burst.specs.Burst.{Burst}
use Rattle.host.specs.declared.Record.{Record}
use Rattle.writes.specs.WrittenLaws.{stored_length}
use Rattle.host.specs.Record.{record_of}
use Rattle.update.specs.Update.{ListAnswer, listed, refused, is_listed}
use Rattle.rounds.specs.Round.{present_at, record_at, takes, part_at, count_all, bytes_all, round_size, least_limit, most_limit, every_place, present_sound, present_placed, round_parts, round_answer, round_buffer, round_record, round_of, present_by}
use Rattle.rounds.proofs.ListLaws.{few_parts}
use Rattle.rounds.proofs.DealLaws.{round_takes, round_bytes, parts_ready}
use Rattle.rounds.specs.Dealing.{ImagesAfter}
use Rattle.capi.specs.Capi.{settings_at, image_at, record_in, header_bytes, record_bytes, record_size, put_image, place_at, record_from, records_in, records_bytes, kept_at, kept_to, round_sized, round_answer_by, Fits}
use Rattle.capi.specs.CapiLaws.{Whole, record_first, record_back, record_length, records_round}
use Rattle.capi.proofs.InPlace.{put_part, part_length}

-- ---- what is read

-- a record is held by its own bytes
record_alone : (bytes : List ℕ) → record_size ≤ length bytes → record_in (take record_size bytes) ≡ record_in bytes
unfolding record_in
record_alone bytes h =
    ap record_in (sym (record_first bytes h))
    ∙ record_back (record_in bytes) (part_length settings_at 908 bytes (omega arith)) (part_length image_at 908 bytes (omega arith))

pub record_read : (bytes : List ℕ) (k : ℕ) → length bytes ≡ place_at 4 → k < 4 →
    record_in (take (place_at k + record_size - place_at k) (drop (place_at k) bytes)) ≡ record_from bytes k
record_read bytes k h l =
    let size : place_at k + record_size - place_at k ≡ record_size = omega arith in
    ap (λ (n : ℕ). record_in (take n (drop (place_at k) bytes))) size
    ∙ record_alone (drop (place_at k) bytes) (omega (arith, length-drop (place_at k) bytes))

pub records_read : (bytes : List ℕ) (a b c d : Record) → a ≡ record_from bytes 0 → b ≡ record_from bytes 1 → c ≡ record_from bytes 2 → d ≡ record_from bytes 3 →
    a ∷ b ∷ c ∷ d ∷ [] ≡ records_in bytes
records_read bytes a b c d ea eb ec ed = rw (ea, eb, ec, ed) refl

-- ---- what is put back

abbrev with_image : Record → List ℕ → Record
with_image r image = record_of r.header r.settings image

-- the image of the first record,
put_first : (r : Record) → Whole r → (image rest : List ℕ) →
    put_image (record_bytes r ++ rest) image_at image ≡ record_bytes (with_image r image) ++ rest
unfolding record_bytes
put_first r w image rest =
    ap₂ (λ (a b : List ℕ). header_bytes r.header ++ (a ++ (image ++ b)))
    (ap (take 908) (append_assoc r.settings r.image rest) ∙ take_at r.settings (r.image ++ rest) 908 w.0)
    (drop_at (r.settings ++ r.image) rest 1816 (omega (arith, length-append r.settings r.image, w.0, w.1)))
    ∙ ap (λ (l : List ℕ). header_bytes r.header ++ l) (sym (append_assoc r.settings image rest))

-- and of one behind other bytes
put_behind : (x l : List ℕ) (at : ℕ) (image : List ℕ) → put_image (x ++ l) (length x + at) image ≡ x ++ put_image l at image
put_behind x l at image =
    ap₂ (λ (a b : List ℕ). a ++ (image ++ b)) (take-append-add x l at)
    (ap (λ (k : ℕ). drop k (x ++ l)) (add_assoc (length x) at 908) ∙ drop-append-add x l (at + 908))
    ∙ append_assoc x (take at l) (image ++ drop (at + 908) l)

-- a record as its image leaves it
abbrev kept_record : Bool → Record → List ℕ → Record
kept_record b r image = cond b (with_image r image) r

kept_whole : (b : Bool) (r : Record) (image : List ℕ) → Whole r → length image ≡ 908 → length (record_bytes (kept_record b r image)) ≡ record_size
kept_whole true r image w e = record_length (with_image r image) w.0 e
kept_whole false r image w e = record_length r w.0 w.1

kept_first : (b : Bool) (r : Record) → Whole r → (image rest : List ℕ) →
    cond b (put_image (record_bytes r ++ rest) image_at image) (record_bytes r ++ rest) ≡ record_bytes (kept_record b r image) ++ rest
kept_first true r w image rest = put_first r w image rest
kept_first false r w image rest = refl

kept_last_lem : (b : Bool) (r : Record) → Whole r → (image : List ℕ) →
    cond b (put_image (record_bytes r) image_at image) (record_bytes r) ≡ record_bytes (kept_record b r image)
kept_last_lem b r w image =
    ap (λ (l : List ℕ). cond b (put_image l image_at image) l) (sym (append-nil (record_bytes r)))
    ∙ kept_first b r w image [] ∙ append-nil (record_bytes (kept_record b r image))

kept_behind : (b : Bool) (x l : List ℕ) (n at : ℕ) (image : List ℕ) → length x ≡ n →
    cond b (put_image (x ++ l) (n + at) image) (x ++ l) ≡ x ++ cond b (put_image l at image) l
kept_behind true x l n at image e = subst (λ (k : ℕ). put_image (x ++ l) (k + at) image ≡ x ++ put_image l at image) e (put_behind x l at image)
kept_behind false x l n at image e = refl

module _ (p : List Bool) (r : List Record) (w : (k : ℕ) → k < 4 → Whole (record_at r k)) (images : List (List ℕ))
    (e : (k : ℕ) → k < 4 → length (get_or images k []) ≡ 908) where
  abbrev y : ℕ → List ℕ
  y k = record_bytes (kept_record (present_at p k) (record_at r k) (get_or images k []))

  y_length : (k : ℕ) → k < 4 → length (y k) ≡ record_size
  y_length k l = kept_whole (present_at p k) (record_at r k) (get_or images k []) (w k l) (e k l)

  all_kept : kept_to 4 p (records_bytes r) images ≡ y 0 ++ (y 1 ++ (y 2 ++ y 3))
  unfolding kept_to
  all_kept = first ∙ second ∙ third ∙ fourth
    where
      x : ℕ → List ℕ
      x k = record_bytes (record_at r k)

      at : ℕ → List ℕ → List ℕ
      at k l = kept_at (present_at p k) l (place_at k + image_at) (get_or images k [])

      first : at 3 (at 2 (at 1 (at 0 (records_bytes r)))) ≡ at 3 (at 2 (at 1 (y 0 ++ (x 1 ++ (x 2 ++ x 3)))))
      first = ap (λ (l : List ℕ). at 3 (at 2 (at 1 l))) (kept_first (present_at p 0) (record_at r 0) (w 0 (omega arith)) (get_or images 0 []) (x 1 ++ (x 2 ++ x 3)))

      second : at 3 (at 2 (at 1 (y 0 ++ (x 1 ++ (x 2 ++ x 3))))) ≡ at 3 (at 2 (y 0 ++ (y 1 ++ (x 2 ++ x 3))))
      second =
          ap (λ (l : List ℕ). at 3 (at 2 l))
          (kept_behind (present_at p 1) (y 0) (x 1 ++ (x 2 ++ x 3)) record_size image_at (get_or images 1 []) (y_length 0 (omega arith))
          ∙ ap (λ (l : List ℕ). y 0 ++ l) (kept_first (present_at p 1) (record_at r 1) (w 1 (omega arith)) (get_or images 1 []) (x 2 ++ x 3)))

      third : at 3 (at 2 (y 0 ++ (y 1 ++ (x 2 ++ x 3)))) ≡ at 3 (y 0 ++ (y 1 ++ (y 2 ++ x 3)))
      third =
          ap (at 3)
          (kept_behind (present_at p 2) (y 0) (y 1 ++ (x 2 ++ x 3)) record_size (record_size + image_at) (get_or images 2 []) (y_length 0 (omega arith))
          ∙ ap (λ (l : List ℕ). y 0 ++ l)
          (kept_behind (present_at p 2) (y 1) (x 2 ++ x 3) record_size image_at (get_or images 2 []) (y_length 1 (omega arith))
          ∙ ap (λ (l : List ℕ). y 1 ++ l) (kept_first (present_at p 2) (record_at r 2) (w 2 (omega arith)) (get_or images 2 []) (x 3))))

      fourth : at 3 (y 0 ++ (y 1 ++ (y 2 ++ x 3))) ≡ y 0 ++ (y 1 ++ (y 2 ++ y 3))
      fourth =
          kept_behind (present_at p 3) (y 0) (y 1 ++ (y 2 ++ x 3)) record_size (record_size * 2 + image_at) (get_or images 3 []) (y_length 0 (omega arith))
          ∙ ap (λ (l : List ℕ). y 0 ++ l)
          (kept_behind (present_at p 3) (y 1) (y 2 ++ x 3) record_size (record_size + image_at) (get_or images 3 []) (y_length 1 (omega arith))
          ∙ ap (λ (l : List ℕ). y 1 ++ l)
          (kept_behind (present_at p 3) (y 2) (x 3) record_size image_at (get_or images 3 []) (y_length 2 (omega arith))
          ∙ ap (λ (l : List ℕ). y 2 ++ l) (kept_last_lem (present_at p 3) (record_at r 3) (w 3 (omega arith)) (get_or images 3 []))))

-- ---- a turn of the loop that puts the images back

module _ (p : List Bool) (images : List (List ℕ)) (old bytes : List ℕ) (k : ℕ) (here : bytes ≡ kept_to k p old images) where
  pub kept_present : (at n : ℕ) (image new : List ℕ) → present_at p k ≡ true → at ≡ place_at k + image_at → n ≡ 908 → image ≡ get_or images k [] →
      new ≡ put_part at n bytes image → new ≡ kept_to (k + 1) p old images
  unfolding kept_to
  kept_present at n image new q ea en ei e =
      e ∙ rw (ea, en, ei, add-one, q, ← here)
      (ap (λ (l : List ℕ). take (place_at k + image_at) bytes ++ (get_or images k [] ++ l)) (drop-drop 908 (place_at k + image_at) bytes))

  pub kept_absent : present_at p k ≡ false → bytes ≡ kept_to (k + 1) p old images
  unfolding kept_to
  kept_absent q = rw (add-one, q) here

-- ---- the round

-- a record that takes the image which the round leaves of it is the record which the round leaves
image_taken : (present : ℕ → Bool) (records : ℕ → Record) (limit size k : ℕ) (image : List ℕ) →
    is_listed (round_answer present records limit size) ≡ true → image ≡ (round_record present records limit size k).image →
    kept_record (present k) (records k) image ≡ round_record present records limit size k
unfolding round_record
image_taken present records limit size k image el ei = rw (ei, el) (go (present k))
  where
    next : Record
    next = takes (records k) (part_at (round_parts present records limit) k)

    go : (b : Bool) → kept_record b (records k) (cond b next (records k)).image ≡ cond b next (records k)
    go true = refl
    go false = refl

module _ (bytes : List ℕ) (h : length bytes ≡ place_at 4) where
  whole : (k : ℕ) → k < 4 → Whole (record_from bytes k)
  unfolding record_in
  whole k l =
      let e : length (drop (place_at k) bytes) ≡ place_at 4 - place_at k = length-drop (place_at k) bytes ∙ ap (λ (n : ℕ). n - place_at k) h in
      (part_length settings_at 908 (drop (place_at k) bytes) (omega (arith, e)), part_length image_at 908 (drop (place_at k) bytes) (omega (arith, e)))

  whole_at : (k : ℕ) → k < 4 → Whole (record_at (records_in bytes) k)
  whole_at zero l = whole 0 l
  whole_at (suc zero) l = whole 1 l
  whole_at (suc (suc zero)) l = whole 2 l
  whole_at (suc (suc (suc zero))) l = whole 3 l
  whole_at (suc (suc (suc (suc k)))) l = absurd (omega arith)

  -- the copy of an image
  copy_is : (k : ℕ) → take 908 (drop (place_at k + image_at) bytes) ≡ (record_from bytes k).image
  unfolding record_in
  copy_is k = ap (take 908) (sym (drop-drop image_at (place_at k) bytes))

  module _ (present : List Bool) (limit : ℕ) (buffer after : List ℕ) (answer : ListAnswer) (c0 c1 c2 c3 : List ℕ) (images : List (List ℕ))
      (e0 : c0 ≡ take 908 (drop (place_at 0 + image_at) bytes)) (e1 : c1 ≡ take 908 (drop (place_at 1 + image_at) bytes))
      (e2 : c2 ≡ take 908 (drop (place_at 2 + image_at) bytes)) (e3 : c3 ≡ take 908 (drop (place_at 3 + image_at) bytes))
      (lent : List Record) (read : lent ≡ records_in bytes)
      (answers : answer ≡ round_answer (present_at present) (record_at lent) limit (length buffer))
      (sends : after ≡ round_buffer (present_at present) (record_at lent) limit buffer)
      (takes_parts : ImagesAfter (present_at present) (record_at lent) limit (length buffer) (c0 ∷ c1 ∷ c2 ∷ c3 ∷ []) images) where
    abbrev left : ℕ → Record
    left k = round_record (present_at present) (record_at (records_in bytes)) limit (length buffer) k

    answer_is : answer ≡ round_answer (present_at present) (record_at (records_in bytes)) limit (length buffer)
    answer_is = answers ∙ ap (λ (r : List Record). round_answer (present_at present) (record_at r) limit (length buffer)) read

    copies : (k : ℕ) → k < 4 → get_or (c0 ∷ c1 ∷ c2 ∷ c3 ∷ []) k [] ≡ (record_at (records_in bytes) k).image
    copies zero l = e0 ∙ copy_is 0
    copies (suc zero) l = e1 ∙ copy_is 1
    copies (suc (suc zero)) l = e2 ∙ copy_is 2
    copies (suc (suc (suc zero))) l = e3 ∙ copy_is 3
    copies (suc (suc (suc (suc k)))) l = absurd (omega arith)

    image_is : (k : ℕ) → k < 4 → get_or images k [] ≡ (left k).image
    image_is k l =
        subst (λ (r : List Record). ImagesAfter (present_at present) (record_at r) limit (length buffer) (c0 ∷ c1 ∷ c2 ∷ c3 ∷ []) images) read takes_parts
        k l (copies k l)

    sized : (k : ℕ) → k < 4 → length (get_or images k []) ≡ 908
    unfolding round_record
    sized k l = ap length (image_is k l) ∙ go (is_listed (round_answer (present_at present) (record_at (records_in bytes)) limit (length buffer)) && present_at present k)
      where
        r : Record
        r = record_at (records_in bytes) k

        xs : List Burst
        xs = part_at (round_parts (present_at present) (record_at (records_in bytes)) limit) k

        go : (b : Bool) → length (cond b (takes r xs) r).image ≡ 908
        go true = stored_length xs r.image ∙ (whole_at k l).1
        go false = (whole_at k l).1

    module _ (listed : is_listed answer ≡ true) where
      taken : (k : ℕ) → k < 4 → kept_record (present_at present k) (record_at (records_in bytes) k) (get_or images k []) ≡ left k
      taken k l = image_taken (present_at present) (record_at (records_in bytes)) limit (length buffer) k (get_or images k []) (ap is_listed (sym answer_is) ∙ listed) (image_is k l)

      all_taken : kept_to 4 present bytes images ≡ records_bytes (left 0 ∷ left 1 ∷ left 2 ∷ left 3 ∷ [])
      all_taken =
          ap (λ (l : List ℕ). kept_to 4 present l images) (sym (records_round bytes h))
          ∙ all_kept present (records_in bytes) whole_at images sized
          ∙ rw (taken 0 (omega arith), taken 1 (omega arith), taken 2 (omega arith), taken 3 (omega arith)) refl

      pub round_put : (new : List ℕ) → new ≡ kept_to 4 present bytes images →
          new ≡ cond (is_listed answer) (records_bytes (round_of (records_in bytes) present limit (length buffer)).records) bytes
      unfolding round_of
      round_put new e = rw listed (e ∙ all_taken)

    pub round_kept : is_listed answer ≡ false → bytes ≡ cond (is_listed answer) (records_bytes (round_of (records_in bytes) present limit (length buffer)).records) bytes
    round_kept l = rw l refl

    pub round_answered : answer ≡ (round_of (records_in bytes) present limit (length buffer)).answer
    unfolding round_of
    round_answered = answer_is

    pub round_sent : after ≡ round_buffer (present_at present) (record_at (records_in bytes)) limit buffer
    round_sent = sends ∙ ap (λ (r : List Record). round_buffer (present_at present) (record_at r) limit buffer) read

-- ---- the call

-- every value of its answer fits
round_fits : (present : ℕ → Bool) (records : ℕ → Record) (limit size : ℕ) → Fits (round_answer present records limit size)
unfolding round_answer
round_fits present records limit size =
    go (every_place (present_sound present records)) (leb least_limit limit && leb limit most_limit) (every_place (present_placed present records))
    (leb (round_size (round_parts present records limit)) size) small
  where
    n : ℕ
    n = count_all (round_parts present records limit)

    t : ℕ
    t = bytes_all (round_parts present records limit)

    answers : Bool → Bool → Bool → Bool → ListAnswer
    answers a b c d = cond a (cond b (cond c (cond d (listed n t) (refused BufferShort)) (refused NotItsPlace)) (refused RoundLimit)) (refused Unsound)

    small : is_listed (round_answer present records limit size) ≡ true → (n < 2 ^ 32) × (t < 2 ^ 32)
    small l =
        let x = round_takes present records limit size l in
        let f = few_parts (round_parts present records limit) (parts_ready present records limit x.sound) in
        (omega (arith, f, round_bytes present records limit, x.most), omega (arith, round_bytes present records limit, x.most))

    go : (a b c d : Bool) → (is_listed (answers a b c d) ≡ true → (n < 2 ^ 32) × (t < 2 ^ 32)) → Fits (answers a b c d)
    go true true true true s = s refl
    go true true true false s = tt
    go true true false d s = tt
    go true false c d s = tt
    go false b c d s = tt

pub round_within : (r : List Record) (p : List Bool) (limit size : ℕ) (answer : ListAnswer) → answer ≡ (round_of r p limit size).answer → Fits answer
unfolding round_of
round_within r p limit size answer e = subst Fits (sym e) (round_fits (present_at p) (record_at r) limit size)

module _ (bytes : List ℕ) (present : ℕ) where
  -- on bytes of the right size, with marks of the four places
  module _ (s : round_sized bytes present ≡ true) (marks : List Bool) (e : marks ≡ present_by present) (limit : ℕ) (buffer : List ℕ) (answer : ListAnswer) (new after : List ℕ) where
    abbrev Done : List Bool → Type 0
    Done m =
        (answer ≡ (round_of (records_in bytes) m limit (length buffer)).answer)
        × ((new ≡ cond (is_listed answer) (records_bytes (round_of (records_in bytes) m limit (length buffer)).records) bytes)
        × (after ≡ round_buffer (present_at m) (record_at (records_in bytes)) limit buffer))

    pub round_called : Done marks →
        (round_answer_by bytes present (round_of (records_in bytes) (present_by present) limit (length buffer)).answer ≡ answer)
        × ((new ≡ cond (is_listed answer) (records_bytes (round_of (records_in bytes) (present_by present) limit (length buffer)).records) bytes)
        × (after ≡ cond (round_sized bytes present) (round_buffer (present_at (present_by present)) (record_at (records_in bytes)) limit buffer) buffer))
    unfolding round_answer_by
    round_called d =
        let x = subst Done e d in
        (rw s (sym x.0), (x.1.0, rw s x.1.1))
