-- The fixed strings of Reset and Clear, the records that the calls by value give back, and the numbers of an update's answer.
-- Assumes nothing.
use mathlib.Core.Path.{◌≡◌, refl, sym, ap, ◌∙◌}
use mathlib.Core.Bool.{Bool, true, false, cond}
use mathlib.Core.List.{List, ◌++◌}
use Rattle.std.specs.Prelude.{Result, Ok, Err}
use Rattle.std.proofs.lemmas.Bool.{false≢true}
use Prim.Native.Nat.{ℕ, ◌+◌, ◌-◌, ◌*◌, ◌/◌, ◌%◌, ◌<◌, ◌≤◌}
use native.Mathlib.Omega.{arith}
use borrow.Author.Tests.{eq-eqb, ne_eqb, eqb-true, le-leb, lt-leb}
use lib.Dec.{eqb}
use lib.Bits.{bit_or}
use lib.ListN.{length, get_or, set, take, drop}
use lib.Seq.{sets, take-length}
use Rattle.map.specs.declared.refusals.Numbers.{Numbers}
use Rattle.map.specs.declared.refusals.Refusal.{Refusal}
use Rattle.map.specs.declared.refusals.Refusal.TheVariants.{Unsound, BufferShort}
use Rattle.map.specs.Refusals.{numbers_of}
use Rattle.map.specs.Lists.{all_from}
use Rattle.map.specs.ListLaws.{all_at}
use Rattle.map.specs.Images.{reset_image}
use Rattle.burst.specs.Burst.{head_first, head_second, transaction_of, list_of, encode}
use Rattle.burst.specs.BurstLaws.{encode_length}
use Rattle.host.specs.declared.Header.{Header}
use Rattle.host.specs.declared.Record.{Record}
use Rattle.host.specs.Record.{record_of, free, marked_as, sound_of, sound_answer, when_sound}
use Rattle.writes.specs.WrittenLaws.{sets_front}
use Rattle.update.specs.Update.{ListAnswer, listed, refused, is_listed, list_numbers, update_numbers, list_size, over, send_answer, send_buffer, command_write, command, reset_answer, resetting, chip_reset_of, clearing, clear_answer, clear_of}
use Rattle.update.specs.SendLaws.{send_unsound, send_short, send_listed, sent_is}

-- ---- soundness, as it is answered

-- an unsound record is refused with 14
pub unsound_is : (r : Record) (e : Refusal) → Err e ≡ sound_answer r → (sound_of r ≡ false) × (e ≡ Unsound)
unfolding sound_answer when_sound
unsound_is r e s = go (sound_of r) s
  where
    go : (b : Bool) → ◌≡◌ {A = Result Unit Refusal} (Err e) (cond b (Ok tt) (Err Unsound)) → (b ≡ false) × (e ≡ Unsound)
    go true q = cc
    go false q = (refl, cc)

-- and a sound one is not
pub sound_told : (r : Record) → Ok tt ≡ sound_answer r → sound_of r ≡ true
unfolding sound_answer when_sound
sound_told r s = go (sound_of r) s
  where
    go : (b : Bool) → ◌≡◌ {A = Result Unit Refusal} (Ok tt) (cond b (Ok tt) (Err Unsound)) → b ≡ true
    go true q = refl
    go false q = cc

-- ---- the strings

pins_test : ℕ → Bool
pins_test k = eqb (bit_or (0x80 + 2 * (k / 4)) (8 * (k % 4))) (0x80 + 8 * (k % 4) + 2 * (k / 4))

-- the pins beside the other bits of an I2C head
pins_in : (pins a : ℕ) → bit_or (head_first 0 0 a) (8 * (pins % 4)) ≡ head_first 0 pins a
unfolding head_first pins_test all_from
pins_in pins a = at (4 * (a / 256 % 4) + pins % 4) (a / 256 % 4) (pins % 4) (omega arith) (omega arith) (omega arith)
  where
    at : (k x p : ℕ) → k < 16 → k / 4 ≡ x → k % 4 ≡ p → bit_or (0x80 + 2 * x) (8 * p) ≡ 0x80 + 8 * p + 2 * x
    at k x p h ex ep = rw (sym ex, sym ep) (eqb-true (bit_or (0x80 + 2 * (k / 4)) (8 * (k % 4))) (0x80 + 8 * (k % 4) + 2 * (k / 4)) (all_at pins_test 0 16 refl k (omega arith) h))

-- ---- a command

module _ (r : Record) (i2c spi buffer : List ℕ) where
  -- what is answered, and the buffer afterwards, where the strings are those of one write
  abbrev pub Done : ListAnswer → List ℕ → Type 0
  Done answer new =
      (a : ℕ) (bytes : List ℕ) (host : Record) → i2c ≡ encode 0 0 (command_write a bytes) → spi ≡ encode 1 0 (command_write a bytes) →
      (answer ≡ send_answer r (command a bytes host) (length buffer)) × (new ≡ send_buffer r (command a bytes host) buffer)

  pub command_unsound : (e : Refusal) → Err e ≡ sound_answer r → Done (refused e) buffer
  command_unsound e s a bytes host ei es =
      let u = unsound_is r e s in
      let l = send_unsound r (command a bytes host) buffer u.0 in
      (ap refused u.1 ∙ l.answer_is, l.buffer_is)

  module _ (s : Ok tt ≡ sound_answer r) where
    -- as many bytes as the string has
    string_size : (a : ℕ) (bytes : List ℕ) → i2c ≡ encode 0 0 (command_write a bytes) → list_size (command_write a bytes) ≡ length i2c
    string_size a bytes e = sym (ap length e ∙ encode_length 0 0 (command_write a bytes))

    pub command_short : length buffer < length i2c → Done (refused BufferShort) buffer
    command_short h a bytes host ei es =
        let l = send_short r (command a bytes host) buffer refl (sound_told r s) (omega (arith, string_size a bytes ei)) in (l.answer_is, l.buffer_is)

    module _ (h : length i2c ≤ length buffer) where
      written : (a : ℕ) (bytes : List ℕ) (host : Record) → i2c ≡ encode 0 0 (command_write a bytes) → (new : List ℕ) →
          new ≡ over (encode r.header.bus r.header.pins (command_write a bytes)) buffer →
          (listed 1 (length i2c - 6) ≡ send_answer r (command a bytes host) (length buffer)) × (new ≡ send_buffer r (command a bytes host) buffer)
      written a bytes host ei new e =
          let l = send_listed r (command a bytes host) buffer (sound_told r s) (omega (arith, string_size a bytes ei)) in
          (ap (listed 1) (omega (arith, string_size a bytes ei)) ∙ l.answer_is, e ∙ l.buffer_is)

      pub i2c_put : r.header.bus ≡ 0 →
          Done (listed 1 (length i2c - 6)) (set (i2c ++ drop (length i2c) buffer) 6 (bit_or (get_or (i2c ++ drop (length i2c) buffer) 6 0) (8 * (r.header.pins % 4))))
      unfolding encode list_of transaction_of
      i2c_put z a bytes host ei es = written a bytes host ei _ (rw (ei, z) (rw (pins_in r.header.pins a) refl))

      pub spi_put : (r.header.bus ≡ 0 → ⊥) → length spi ≡ length i2c → Done (listed 1 (length i2c - 6)) (spi ++ drop (length i2c) buffer)
      unfolding encode list_of transaction_of head_first head_second
      spi_put n l a bytes host ei es = written a bytes host ei _ (rw (sym l, es, ne_eqb r.header.bus 0 n) refl)

-- ---- the calls by value

pub clear_is : (r : Record) (size : ℕ) (answer : ListAnswer) → answer ≡ clear_answer r size → record { answer = answer; host = r } ≡ clear_of r size
clear_is r size answer e = sent_is r (clearing r) size answer r e (sym (either (is_listed answer)))
  where
    either : (b : Bool) → cond b r r ≡ r
    either true = refl
    either false = refl

-- where a list was written, the record has the reset values and no lock
pub reset_is : (r : Record) (size : ℕ) (answer : ListAnswer) → answer ≡ reset_answer r size → is_listed answer ≡ true → length r.image ≡ 908 →
    (h : Header) → h ≡ marked_as r.header free → (image : List ℕ) → image ≡ cond (eqb (length r.image) 908) (reset_image r.header.member) r.image →
    record { answer = answer; host = record_of h r.settings image } ≡ chip_reset_of r size
reset_is r size answer e l z h eh image i =
    sent_is r (resetting r) size answer (record_of h r.settings image) e (rw (eh, i, eq-eqb (length r.image) 908 z, l) refl)

pub reset_not : (r : Record) (size : ℕ) (answer : ListAnswer) → answer ≡ reset_answer r size → is_listed answer ≡ false →
    record { answer = answer; host = r } ≡ chip_reset_of r size
reset_not r size answer e l = sent_is r (resetting r) size answer r e (rw l refl)

-- ---- the numbers of an update's answer

-- what was stored, behind n and t
pub stored_behind : (answer : ListAnswer) (stored : ℕ) (numbers : Numbers) → is_listed answer ≡ true → numbers ≡ numbers_of (list_numbers answer) →
    record { count = 4; values = set numbers.values 3 stored } ≡ numbers_of (update_numbers answer stored)
unfolding numbers_of
stored_behind (Ok l) stored numbers e en = rw en refl
stored_behind (Err x) stored numbers e en = absurd (false≢true e)

pub stored_not : (answer : ListAnswer) (stored : ℕ) (numbers : Numbers) → is_listed answer ≡ false → numbers ≡ numbers_of (list_numbers answer) →
    numbers ≡ numbers_of (update_numbers answer stored)
stored_not (Ok l) stored numbers e en = absurd (false≢true (sym e))
stored_not (Err x) stored numbers e en = en
