-- What `store_sent` finds in the buffer of an update, and what it stores.
-- Assumes nothing.
use mathlib.Core.Path.{◌≡◌, refl, sym, ap, subst, ◌∙◌}
use mathlib.Core.Bool.{Bool, true, false, cond}
use mathlib.Core.List.{List, ◌++◌, map}
use Prim.Native.Nat.{ℕ}
use lib.ListN.{length, drop}
use Rattle.map.specs.RefusalLaws.{opens_pins}
use Rattle.burst.specs.Burst.{Burst, sizes_good, transactions, burst_of, data_bytes, encode}
use Rattle.burst.specs.BurstLaws.{encode_sizes, encode_back}
use Rattle.burst.specs.FrontLaws.{LeadsWithList, transactions_front, begins_front}
use Rattle.plan.specs.Update.{store_all}
use Rattle.host.specs.declared.Header.{Header}
use Rattle.host.specs.declared.Record.{Record}
use Rattle.host.specs.Record.{record_of, sound_of}
use Rattle.host.proofs.SoundLaws.{sound_is}
use Rattle.writes.specs.Stored.{AllWithin}
use Rattle.update.specs.Update.{ListAnswer, listed, is_listed, writes_of, updating, update_answer, update_stored, update_of, update_buffer, send_of}
use Rattle.update.specs.Pieces.{UpdateSent}
use Rattle.update.specs.SendLaws.{answered, list_is, host_is, host_kept}
use Rattle.update.specs.BoundLaws.{update_sendable, update_named, update_within}
use Rattle.update.proofs.StoredLaws.{stored_data}

module _ (answer : ListAnswer) (header : Header) (settings image lent buffer : List ℕ) (u : UpdateSent answer header settings image lent buffer) where
  abbrev r : Record
  r = record_of header settings image

  -- the writes that the buffer's list says
  abbrev found : List Burst
  found = map (burst_of header.bus) (transactions buffer)

  -- a list was written

  module _ (n t : ℕ) (e : answer ≡ listed n t) where
    told : update_answer r (length lent) ≡ listed n t
    told = sym u.answer_is ∙ e

    sound : sound_of r ≡ true
    sound = (answered r (updating r) refl (length lent) n t told).sound

    abbrev list : List ℕ
    list = encode header.bus header.pins (writes_of r)

    abbrev rest : List ℕ
    rest = drop (length list) lent

    in_front : buffer ≡ list ++ rest
    in_front = u.buffer_is ∙ list_is r (updating r) lent n t told

    good : sizes_good list ≡ true
    good = encode_sizes header.bus header.pins (writes_of r) (update_sendable r sound)

    begins : LeadsWithList buffer
    begins = subst LeadsWithList (sym in_front) (begins_front rest list good)

    -- they are the update's
    found_are : found ≡ writes_of r
    found_are =
        ap (λ (l : List ℕ). map (burst_of header.bus) (transactions l)) in_front
        ∙ ap (map (burst_of header.bus)) (transactions_front rest list good)
        ∙ encode_back header.bus header.pins (writes_of r) (update_sendable r sound)
        (opens_pins header.member header.bus header.pins (sound_is r sound).opened) (update_named r sound)

    within : AllWithin (length image) found
    within = rw (found_are, (sound_is r sound).image.size) (update_within r sound)

    module _ (count : ℕ) (new : List ℕ) (f : LeadsWithList buffer → AllWithin (length image) found → (count ≡ data_bytes found) × (new ≡ store_all found image)) where
      pub count_listed : count ≡ update_stored r (length lent)
      count_listed = (f begins within).0 ∙ ap data_bytes found_are ∙ sym (stored_data r (length lent) n t told)

      pub image_listed : new ≡ (update_of r (length lent)).host.image
      image_listed =
          (f begins within).1 ∙ ap (λ (bs : List Burst). store_all bs image) found_are
          ∙ ap (λ (x : Record). x.image) (sym (host_is r (updating r) (length lent) n t told))

  -- none was

  module _ (e : is_listed answer ≡ false) where
    refused : is_listed (update_answer r (length lent)) ≡ false
    refused = ap is_listed (sym u.answer_is) ∙ e

    pub count_none : 0 ≡ update_stored r (length lent)
    count_none = rw refused refl

    pub image_none : image ≡ (update_of r (length lent)).host.image
    image_none = ap (λ (x : Record). x.image) (sym (host_kept r (updating r) (length lent) refused))

-- ---- the call by value

module _ (r : Record) (lent buffer : List ℕ) (answer : ListAnswer) (ea : answer ≡ update_answer r (length lent)) (eb : buffer ≡ update_buffer r lent) where
  sent : UpdateSent answer r.header r.settings r.image lent buffer
  sent = record { answer_is = ea; buffer_is = eb }

  -- by what the record's image takes, and how many bytes that are
  pub updated_is : (stored : ℕ) (image : List ℕ) →
      ((settings given : List ℕ) → UpdateSent answer r.header settings r.image given buffer →
      stored ≡ update_stored (record_of r.header settings r.image) (length given)) →
      ((settings given : List ℕ) → UpdateSent answer r.header settings r.image given buffer →
      image ≡ (update_of (record_of r.header settings r.image) (length given)).host.image) →
      record { answer = answer; stored = stored; host = record_of r.header r.settings image } ≡ update_of r (length lent)
  unfolding send_of
  updated_is stored image fs fi =
      rw (ea, fs r.settings lent sent, fi r.settings lent sent)
      (ap (λ (x : Record). record { answer = update_answer r (length lent); stored = update_stored r (length lent); host = x }) (go (is_listed (update_answer r (length lent)))))
    where
      go : (b : Bool) → record_of r.header r.settings (cond b (updating r).host r).image ≡ cond b (updating r).host r
      go true = refl
      go false = refl
