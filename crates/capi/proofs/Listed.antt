-- What a call answers and stores that writes a list, or finds a transaction in one.
-- Assumes nothing.
use mathlib.Core.Path.{◌≡◌, refl, sym, ap, ◌∙◌}
use mathlib.Core.Bool.{Bool, true, false, cond}
use mathlib.Core.List.{List}
use Prim.Native.Nat.{ℕ, ◌+◌, ◌<◌, ◌≤◌, ◌^◌}
use native.Mathlib.Omega.{arith}
use lib.Dec.{leb}
use lib.ListN.{length}
use Rattle.map.specs.declared.refusals.Refusal.{Refusal}
use Rattle.map.specs.declared.refusals.Refusal.TheVariants.{BufferShort, ListSizes, Unsound, NoTransaction}
use Rattle.map.specs.Refusals.{refusal_number}
use Rattle.burst.specs.declared.places.Place.{Place}
use Rattle.std.specs.Prelude.{Result, Ok, Err}
use Rattle.burst.specs.declared.places.PlaceError.{PlaceError}
use Rattle.burst.specs.declared.places.PlaceError.TheVariants.{BadSizes, NoIndex}
use Rattle.burst.specs.Burst.{at, bus_bytes, data_bytes, place_of}
use Rattle.burst.specs.BurstLaws.{good_sizes}
use Rattle.burst.specs.PlaceLaws.{transaction_stands, placed}
use Rattle.host.specs.declared.Record.{Record}
use Rattle.host.specs.Record.{record_of, sound_of}
use Rattle.update.specs.declared.Listed.{Listed}
use Rattle.update.specs.Update.{ListAnswer, listed, short, refused, is_listed, list_number, list_size, Sending, send_answer, send_of, send_buffer, writes_of, updating, update_answer, update_stored, update_of, update_buffer, command_write, command}
use Rattle.update.specs.Pieces.{UpdateSent}
use Rattle.update.specs.SendLaws.{answer_of}
use Rattle.update.proofs.StoredLaws.{stored_is}
use Rattle.update.specs.BoundLaws.{bus_most, writes_few, size_most}
use Rattle.capi.specs.Capi.{header_in, settings_in, image_at, image_in, record_in, record_bytes, record_size, list_answer, list_bytes, buffer_after, value_after, n_after, t_after, stored_after, Fits, place_numbers}
use Rattle.capi.specs.Calls.{transaction_call}
use Rattle.capi.specs.CapiLaws.{record_sized_lem, refused_stores}
use Rattle.capi.proofs.InPlace.{put_part, chosen, image_put, parts_are}

-- ---- lists are short

module _ (r : Record) (size : ℕ) where
  update_fits : Fits (update_answer r size)
  unfolding send_answer
  update_fits = go (sound_of r) refl (leb (list_size (writes_of r)) size)
    where
      go : (s : Bool) → sound_of r ≡ s → (b : Bool) →
          Fits (cond s (cond b (listed (length (writes_of r)) (bus_bytes (writes_of r))) (short (list_size (writes_of r)))) (refused Unsound))
      go true e true = (omega (arith, bus_most r e, writes_few r e), omega (arith, bus_most r e))
      go true e false = omega (arith, size_most r e)
      go false e b = tt

  -- a command of one byte or two
  command_fits : (a : ℕ) (values : List ℕ) (host : Record) → length values ≤ 2 → Fits (send_answer r (command a values host) size)
  unfolding send_answer
  command_fits a values host h = go (sound_of r) (leb (list_size (command_write a values)) size)
    where
      go : (s b : Bool) → Fits (cond s (cond b (listed 1 (bus_bytes (command_write a values))) (refused BufferShort)) (refused Unsound))
      go true true = (omega arith, omega arith)
      go true false = tt
      go false b = tt

  pub update_within : (answer : ListAnswer) → answer ≡ update_answer r size → Fits answer
  update_within answer e = rw e update_fits

  pub command_within : (a : ℕ) (values : List ℕ) (host : Record) → length values ≤ 2 → (answer : ListAnswer) →
      answer ≡ send_answer r (command a values host) size → Fits answer
  command_within a values host h answer e = rw e (command_fits a values host h)

-- ---- a call that sends, on bytes of the right size, whose record was read

module _ (f : Record → Sending) (bytes : List ℕ) (h : length bytes ≡ record_size) (r : Record) (read : r ≡ record_in bytes) (buffer : List ℕ) (answer : ListAnswer)
    (ea : answer ≡ send_answer r (f r) (length buffer)) where
  answers : answer ≡ send_answer (record_in bytes) (f (record_in bytes)) (length buffer)
  answers = ea ∙ ap (λ (x : Record). send_answer x (f x) (length buffer)) read

  pub answer_is : list_answer bytes (send_of (record_in bytes) (f (record_in bytes)) (length buffer)) ≡ answer
  unfolding list_answer send_of
  answer_is = rw (record_sized_lem bytes h) (sym answers)

  pub buffer_is : (new : List ℕ) → new ≡ send_buffer r (f r) buffer → new ≡ buffer_after bytes (send_buffer (record_in bytes) (f (record_in bytes)) buffer) buffer
  unfolding buffer_after
  buffer_is new e = e ∙ ap (λ (x : Record). send_buffer x (f x) buffer) read ∙ rw (record_sized_lem bytes h) refl

  -- the record that the call leaves, or nothing
  sent : list_bytes bytes (send_of (record_in bytes) (f (record_in bytes)) (length buffer)) ≡
      cond (is_listed answer) (record_bytes (f (record_in bytes)).host) bytes
  unfolding list_bytes send_of
  sent = rw answer_is (rw (sym answers) (sym (chosen (is_listed answer) (f (record_in bytes)).host (record_in bytes) bytes)))

  pub stored_host : (new : List ℕ) → is_listed answer ≡ true → new ≡ record_bytes (f (record_in bytes)).host →
      new ≡ list_bytes bytes (send_of (record_in bytes) (f (record_in bytes)) (length buffer))
  stored_host new l e = e ∙ sym (sent ∙ rw l refl)

  pub kept_bytes : is_listed answer ≡ false → bytes ≡ list_bytes bytes (send_of (record_in bytes) (f (record_in bytes)) (length buffer))
  kept_bytes l = sym (sent ∙ rw l refl)

-- an update has its image take what was sent
module _ (bytes : List ℕ) (h : length bytes ≡ record_size) (r : Record) (read : r ≡ record_in bytes) (lent buffer : List ℕ) (answer : ListAnswer)
    (ea : answer ≡ update_answer r (length lent)) (eb : buffer ≡ update_buffer r lent) where
  abbrev held : Record
  held = record_of r.header (settings_in bytes) (image_in bytes)

  same : r ≡ held
  same = parts_are bytes h r read

  -- what storing it is told
  pub sent_so : UpdateSent answer r.header (settings_in bytes) (image_in bytes) lent buffer
  sent_so = record { answer_is = ea ∙ ap (λ (x : Record). update_answer x (length lent)) same; buffer_is = eb ∙ ap (λ (x : Record). update_buffer x lent) same }

  pub update_back : (part : List ℕ) → part ≡ (update_of held (length lent)).host.image →
      put_part image_at 908 bytes part ≡ list_bytes bytes (send_of (record_in bytes) (updating (record_in bytes)) (length lent))
  unfolding send_of record_in
  update_back part ep =
      ap (put_part image_at 908 bytes)
      (ep ∙ ap (λ (x : Record). (update_of x (length lent)).host.image) (sym same ∙ read)
      ∙ ap (λ (x : ListAnswer). (cond (is_listed x) (updating (record_in bytes)).host (record_in bytes)).image) (sym (answers updating bytes h r read lent answer ea))
      ∙ image_of (is_listed answer))
      ∙ image_put bytes h (is_listed answer) (updating (record_in bytes)).host.image
      ∙ as_record (is_listed answer)
      ∙ sym (sent updating bytes h r read lent answer ea)
    where
      image_of : (b : Bool) → (cond b (updating (record_in bytes)).host (record_in bytes)).image ≡ cond b (updating (record_in bytes)).host.image (image_in bytes)
      image_of true = refl
      image_of false = refl

      as_record : (b : Bool) → cond b (record_bytes (record_of (header_in bytes) (settings_in bytes) (updating (record_in bytes)).host.image)) bytes
          ≡ cond b (record_bytes (updating (record_in bytes)).host) bytes
      as_record b = refl

  -- how many bytes that are is stored
  pub stored_by : (count : ℕ) → count ≡ update_stored held (length lent) → (old new : ℕ) → new ≡ stored_after answer count old →
      new ≡ stored_after answer (update_stored (record_in bytes) (length lent)) old
  stored_by count e old new en =
      en ∙ ap (λ (k : ℕ). stored_after answer k old) (e ∙ ap (λ (x : Record). update_stored x (length lent)) (sym same ∙ read))

  -- and is below 2 ^ 32
  pub stored_fits : (count : ℕ) → count ≡ update_stored held (length lent) → count < 2 ^ 32
  stored_fits count e = go answer refl
    where
      told : count ≡ update_stored r (length lent)
      told = e ∙ ap (λ (x : Record). update_stored x (length lent)) (sym same)

      go : (x : ListAnswer) → answer ≡ x → count < 2 ^ 32
      go (Ok l) q =
          let f : Fits (listed l.n l.t) = update_within r (length lent) (listed l.n l.t) (sym q ∙ ea) in
          omega (arith, told ∙ stored_is r (length lent) l.n l.t (answer_of r (updating r) (length lent) ∙ sym ea ∙ q), f.1)
      go (Err x) q = omega (arith, told ∙ ap (λ (y : ListAnswer). cond (is_listed y) (data_bytes (writes_of r)) 0) (sym ea ∙ q))

-- ---- what a list's answer stores

abbrev pub Counted : ListAnswer → ℕ → ℕ → ℕ → ℕ → ℕ → Type 0
Counted answer n t number new-n new-t = (number ≡ list_number answer) × ((new-n ≡ n_after answer n) × (new-t ≡ t_after answer t))

pub counted_listed : (answer : ListAnswer) (n t : ℕ) (l : Listed) → answer ≡ Ok l → Counted answer n t 0 l.n l.t
unfolding value_after
counted_listed answer n t l e = rw e (refl, (refl, refl))

pub counted_short : (answer : ListAnswer) (n t number needed : ℕ) → answer ≡ short needed → number ≡ refusal_number BufferShort → Counted answer n t number n t
unfolding value_after
counted_short answer n t number needed e h = rw e (h, (refl, refl))

pub counted_refused : (answer : ListAnswer) (n t number : ℕ) (refusal : Refusal) → answer ≡ refused refusal → number ≡ refusal_number refusal → Counted answer n t number n t
counted_refused answer n t number refusal e h = rw e (h, (sym (refused_stores 0 0 refusal n), sym (refused_stores 0 1 refusal t)))

-- ---- a transaction of a list

-- its place fits the 32 bits that each number is stored in
pub place_small : (list : List ℕ) (index first count : ℕ) → place_of list index ≡ at first count → first + count < 2 ^ 32
place_small list index first count e =
    let p = placed list index first count e in
    let g = good_sizes list p.good in
    omega (arith, (transaction_stands list index p.good p.below).inside, p.offset_is, p.length_is, g.size, g.n_small, g.t_small)

module _ (list : List ℕ) (index offset size : ℕ) (place : Result Place PlaceError) (e : place ≡ place_of list index) where
  -- what a call answers and leaves
  abbrev pub Walks : ℕ → ℕ → ℕ → Type 0
  Walks number first count =
      (number ≡ (transaction_call list index offset size).answer)
      × ((first ≡ (transaction_call list index offset size).offset) × (count ≡ (transaction_call list index offset size).size))

  pub walks_at : (first count : ℕ) → place ≡ at first count → Walks 0 first count
  unfolding place_numbers
  walks_at first count q = rw (sym e ∙ q) (refl, (refl, refl))

  pub walks_bad : (number : ℕ) → place ≡ Err BadSizes → number ≡ refusal_number ListSizes → Walks number offset size
  unfolding place_numbers
  walks_bad number q n = rw (sym e ∙ q) (n, (refl, refl))

  pub walks_none : (number : ℕ) → place ≡ Err NoIndex → number ≡ refusal_number NoTransaction → Walks number offset size
  unfolding place_numbers
  walks_none number q n = rw (sym e ∙ q) (n, (refl, refl))
