-- What a call stores into a part of the caller's bytes is what the call on the record, or on the chip, that they hold gives back.
-- Assumes nothing.
use mathlib.Core.Path.{◌≡◌, refl, sym, ap, ◌∙◌}
use mathlib.Core.Bool.{Bool, true, false, cond}
use mathlib.Core.List.{List, [], ◌∷◌, ◌++◌, append_assoc, append-nil}
use Prim.Native.Nat.{ℕ, ◌+◌, ◌^◌, ◌<◌, ◌≤◌}
use native.Mathlib.Nat.{min-eq_left}
use native.Mathlib.Omega.{arith}
use borrow.Author.Tests.{eq-eqb}
use lib.Dec.{ltb, eqb}
use borrow.Rule.Slice.PartMut.{same_len_mid}
use lib.ListN.{length, get_or, take, drop, set, length-set, length-take, length-drop, length-append, drop_of_length-le, take-append-drop}
use lib.Seq.{take_all, take_at, drop-drop}
use mir.Val.{bool_byte}
use Rattle.std.specs.Prelude.{Ok, Err}
use Rattle.map.specs.declared.refusals.Refusal.{Refusal}
use Rattle.map.specs.declared.refusals.Refusal.TheVariants.{Unsound}
use Rattle.map.specs.declared.refusals.Numbers.{Numbers}
use Rattle.map.specs.Refusals.{Answer, refusal_number, answer_number, numbers_of, accepted, open_answer, opens}
use Rattle.map.specs.RefusalLaws.{answer_small, opens_member, opens_bus, opens_pins}
use Rattle.map.specs.Map.{reset_of}
use Rattle.map.specs.ListLaws.{table_length}
use Rattle.map.specs.Images.{reset_image}
use Rattle.burst.specs.Burst.{transactions}
use Rattle.calls.specs.declared.Setting.{Setting}
use Rattle.host.specs.declared.Header.{Header}
use Rattle.host.specs.declared.Record.{Record}
use Rattle.host.specs.declared.Changed.{Changed}
use Rattle.host.specs.Record.{record_of, free, locked, opened, open_host, open_of, setting_answer, setting_numbers, put_setting, changed_to, setting_of, sound_answer, chip_reset, power_lost_of, lock_answer, lock_of}
use Rattle.faults.specs.Faults as faults
use Rattle.faults.specs.Faults.{faults_answer, faults_result}
use Rattle.chip.specs.declared.Chip.{Chip}
use Rattle.chip.specs.Chip.{chip_of, new_chip, at_reset_of, apply_all, feed_answer, feed_of}
use Rattle.capi.specs.Capi.{header_in, marks_at, settings_at, settings_in, image_at, image_in, record_in, record_bytes, record_size, record_sized, put_image, registers_at, chip_in, chip_bytes, chip_size, when_sized, setting_number, setting_bytes, sized_numbers, chip_number, chip_after, buffer_after, faults_answer_by}
use Rattle.capi.specs.CapiLaws.{front, settings_stored, image_stored, record_round, marks_stored, record_sized_lem, record_unsized, chip_sized_lem, chip_unsized}

-- ---- parts of a list

-- k bytes from `from` on are replaced
abbrev pub put_part : ℕ → ℕ → List ℕ → List ℕ → List ℕ
put_part from k bytes new = take from bytes ++ (new ++ drop k (drop from bytes))

-- by themselves
part_same : (from k : ℕ) (bytes : List ℕ) → put_part from k bytes (take k (drop from bytes)) ≡ bytes
part_same from k bytes = ap (λ (l : List ℕ). take from bytes ++ l) (take-append-drop k (drop from bytes)) ∙ take-append-drop from bytes

take-length : (k : ℕ) (l : List ℕ) → k ≤ length l → length (take k l) ≡ k
take-length k l h = length-take k l ∙ min-eq_left h

pub part_length : (from k : ℕ) (bytes : List ℕ) → from + k ≤ length bytes → length (take k (drop from bytes)) ≡ k
part_length from k bytes h = take-length k (drop from bytes) (omega (arith, length-drop from bytes))

-- ---- records

-- a call that answers a number alone: what it answers, and the bytes that it leaves
abbrev pub Done : List ℕ → Changed → ℕ → List ℕ → Type 0
Done bytes x number new = (number ≡ setting_number bytes x) × (new ≡ setting_bytes bytes x)

pub wrong_size : (bytes : List ℕ) (x : Changed) (number : ℕ) → (length bytes ≡ record_size → ⊥) → number ≡ refusal_number Unsound → Done bytes x number bytes
unfolding setting_number setting_bytes when_sized
wrong_size bytes x number n e = (rw (record_unsized bytes n) e, rw (record_unsized bytes n) refl)

-- a call that was made on bytes of the right size
done : (bytes new : List ℕ) (x : Changed) (number : ℕ) → length bytes ≡ record_size → number ≡ answer_number x.answer →
    new ≡ cond (accepted x.answer) (record_bytes x.host) bytes → Done bytes x number new
unfolding setting_number setting_bytes when_sized
done bytes new x number h en eb = (rw (record_sized_lem bytes h) en, rw (record_sized_lem bytes h) eb)

-- the record of an accepted call is the new one
pub chosen : (b : Bool) (new old : Record) (bytes : List ℕ) → cond b (record_bytes new) bytes ≡ cond b (record_bytes (cond b new old)) bytes
chosen true new old bytes = refl
chosen false new old bytes = refl

-- a setting: its number and values, and the bytes that it leaves
abbrev pub Set : List ℕ → Changed → Numbers → List ℕ → Type 0
Set bytes x numbers new = (numbers ≡ sized_numbers bytes x) × (new ≡ setting_bytes bytes x)

pub wrong_size_set : (bytes : List ℕ) (x : Changed) (number : ℕ) (numbers : Numbers) → (length bytes ≡ record_size → ⊥) → number ≡ refusal_number Unsound →
    numbers ≡ numbers_of (number ∷ []) → Set bytes x numbers bytes
unfolding sized_numbers
wrong_size_set bytes x number numbers n e en =
    (en ∙ rw (record_unsized bytes n) (ap (λ (k : ℕ). numbers_of (k ∷ [])) e), (wrong_size bytes x number n e).1)

-- its number is the first of them, and fits where it is handed on
module _ (bytes lent : List ℕ) (q : Setting) (numbers : Numbers) (en : numbers ≡ sized_numbers bytes (setting_of (record_in bytes) q lent)) where
  abbrev x : Changed
  x = setting_of (record_in bytes) q lent

  first_number : (b : Bool) → get_or (cond b x.numbers (numbers_of (refusal_number Unsound ∷ []))).values 0 0 ≡ answer_number (cond b x.answer (Err Unsound))
  unfolding setting_of changed_to setting_numbers numbers_of
  first_number true = refl
  first_number false = refl

  pub set_number : get_or numbers.values 0 0 ≡ setting_number bytes x
  unfolding setting_number sized_numbers when_sized
  set_number = ap (λ (y : Numbers). get_or y.values 0 0) en ∙ first_number (record_sized bytes)

  pub number_fits : get_or numbers.values 0 0 < 2 ^ 32
  unfolding setting_number
  number_fits = omega (arith, set_number, answer_small (when_sized (record_sized bytes) x.answer))

module _ (bytes : List ℕ) (h : length bytes ≡ record_size) where
  -- the settings, or the image, are stored where the call was accepted
  settings_put : (b : Bool) (new : List ℕ) →
      put_part settings_at 908 bytes (cond b new (settings_in bytes)) ≡ cond b (record_bytes (record_of (header_in bytes) (cond b new (settings_in bytes)) (image_in bytes))) bytes
  settings_put true new = ap (λ (l : List ℕ). take settings_at bytes ++ (new ++ l)) (drop-drop 908 settings_at bytes) ∙ sym (settings_stored bytes h new)
  settings_put false new = part_same settings_at 908 bytes

  -- nothing stands behind the image
  pub image_last : (image : List ℕ) → put_image bytes image_at image ≡ take image_at bytes ++ image
  image_last image =
      ap (λ (l : List ℕ). take image_at bytes ++ l)
      (ap (λ (l : List ℕ). image ++ l) (drop_of_length-le bytes {i = record_size} (omega arith)) ∙ append-nil image)

  pub image_put : (b : Bool) (new : List ℕ) →
      put_part image_at 908 bytes (cond b new (image_in bytes)) ≡ cond b (record_bytes (record_of (header_in bytes) (settings_in bytes) new)) bytes
  image_put true new =
      ap (λ (l : List ℕ). take image_at bytes ++ (new ++ l)) (drop-drop 908 image_at bytes)
      ∙ image_last new
      ∙ sym (image_stored bytes h new)
  image_put false new = part_same image_at 908 bytes

  -- Power lost and Reset: the reset values are put into the image, and the lock is released
  pub reset_stored : (header : Header) → header ≡ header_in bytes → (part new : List ℕ) →
      part ≡ cond (eqb (length (image_in bytes)) 908) (reset_image header.member) (image_in bytes) →
      new ≡ set (put_part image_at 908 bytes part) marks_at free → new ≡ record_bytes (chip_reset (record_in bytes))
  unfolding record_in
  reset_stored header eh part new ep en =
      let whole = eq-eqb (length (image_in bytes)) 908 (part_length image_at 908 bytes (omega arith)) in
      let values : List ℕ = reset_image (header_in bytes).member in
      let put : part ≡ values =
      ep ∙ ap (λ (t : Bool). cond t (reset_image header.member) (image_in bytes)) whole ∙ ap (λ (x : Header). reset_image x.member) eh in
      en
      ∙ ap (λ (l : List ℕ). set (put_part image_at 908 bytes l) marks_at free) put
      ∙ ap (λ (l : List ℕ). set l marks_at free) (image_put true values)
      ∙ marks_stored (record_of (header_in bytes) (settings_in bytes) values) free

  -- a call that is accepted, or refused
  pub call_done : (x : Changed) (new : List ℕ) → x.answer ≡ Ok tt → new ≡ record_bytes x.host → Done bytes x 0 new
  call_done x new a e = done bytes new x 0 h (rw a refl) (rw a e)

  pub call_refused : (x : Changed) (refusal : Refusal) (number : ℕ) → x.answer ≡ Err refusal → number ≡ refusal_number refusal → Done bytes x number bytes
  call_refused x refusal number a e = done bytes bytes x number h (rw a e) (rw a refl)

  -- a record that was read
  module _ (r : Record) (read : r ≡ record_in bytes) where
    pub header_is : r.header ≡ header_in bytes
    unfolding record_in
    header_is = ap (λ (x : Record). x.header) read

    pub parts_are : r ≡ record_of r.header (settings_in bytes) (image_in bytes)
    unfolding record_in
    parts_are = read ∙ ap (λ (x : Header). record_of x (settings_in bytes) (image_in bytes)) (sym header_is)

    module _ (answer : Answer) where
      -- what the store of a setting is told
      pub told : (q : Setting) (lent : List ℕ) → answer ≡ setting_answer r q lent → answer ≡ setting_answer (record_of r.header (settings_in bytes) (image_in bytes)) q lent
      told q lent ea = ea ∙ ap (λ (x : Record). setting_answer x q lent) parts_are

      pub setting_done : (q : Setting) (lent part : List ℕ) (numbers : Numbers) → answer ≡ setting_answer r q lent →
          numbers ≡ numbers_of (setting_numbers (record_of r.header (settings_in bytes) (image_in bytes)) q lent) →
          part ≡ cond (accepted answer) (put_setting (settings_in bytes) q lent) (settings_in bytes) →
          Set bytes (setting_of (record_in bytes) q lent) numbers (put_part settings_at 908 bytes part)
      unfolding record_in setting_of changed_to sized_numbers setting_bytes when_sized
      setting_done q lent part numbers ea en ep =
          let e : answer ≡ setting_answer (record_of (header_in bytes) (settings_in bytes) (image_in bytes)) q lent =
          ea ∙ ap (λ (y : Record). setting_answer y q lent) read in (
            en ∙ rw (record_sized_lem bytes h) (ap (λ (y : Header). numbers_of (setting_numbers (record_of y (settings_in bytes) (image_in bytes)) q lent)) header_is),
            ap (put_part settings_at 908 bytes) (ep ∙ ap (λ (y : Answer). cond (accepted y) (put_setting (settings_in bytes) q lent) (settings_in bytes)) e)
                ∙ rw (record_sized_lem bytes h)
                (settings_put (accepted (setting_answer (record_of (header_in bytes) (settings_in bytes) (image_in bytes)) q lent)) (put_setting (settings_in bytes) q lent)),
          )

      -- Power lost puts the reset values, Lock its mark
      pub lost_done : (new : List ℕ) → answer ≡ sound_answer r → answer ≡ Ok tt → new ≡ record_bytes (chip_reset (record_in bytes)) → Done bytes (power_lost_of (record_in bytes)) 0 new
      unfolding power_lost_of
      lost_done new ea a e =
          let q : sound_answer (record_in bytes) ≡ Ok tt = ap sound_answer (sym read) ∙ sym ea ∙ a in
          call_done (power_lost_of (record_in bytes)) new q (e ∙ rw q refl)

      pub lost_refused : (refusal : Refusal) (number : ℕ) → answer ≡ sound_answer r → answer ≡ Err refusal → number ≡ refusal_number refusal → Done bytes (power_lost_of (record_in bytes)) number bytes
      unfolding power_lost_of
      lost_refused refusal number ea a en = call_refused (power_lost_of (record_in bytes)) refusal number (ap sound_answer (sym read) ∙ sym ea ∙ a) en

      pub lock_done : (new : List ℕ) → answer ≡ lock_answer r → answer ≡ Ok tt → new ≡ set bytes marks_at locked → Done bytes (lock_of (record_in bytes)) 0 new
      unfolding lock_of
      lock_done new ea a e =
          let q : lock_answer (record_in bytes) ≡ Ok tt = ap lock_answer (sym read) ∙ sym ea ∙ a in
          call_done (lock_of (record_in bytes)) new q
          (e ∙ ap (λ (l : List ℕ). set l marks_at locked) (sym (record_round bytes h)) ∙ marks_stored (record_in bytes) locked ∙ rw q refl)

      pub lock_refused : (refusal : Refusal) (number : ℕ) → answer ≡ lock_answer r → answer ≡ Err refusal → number ≡ refusal_number refusal → Done bytes (lock_of (record_in bytes)) number bytes
      unfolding lock_of
      lock_refused refusal number ea a en = call_refused (lock_of (record_in bytes)) refusal number (ap lock_answer (sym read) ∙ sym ea ∙ a) en

-- ---- Open

pub opened_inside : (m b p : ℕ) (answer : Answer) → answer ≡ open_answer m b p → answer ≡ Ok tt → (m < 5) × (b < 2) × (p < 4)
unfolding opens
opened_inside m b p answer e a =
    let o : opens m b p ≡ true = ap accepted (sym e ∙ a) in (opens_member m b p o, opens_bus m b p o, opens_pins m b p o)

module _ (m b p : ℕ) (bytes : List ℕ) (answer : Answer) (e : answer ≡ open_answer m b p) (h : length bytes ≡ record_size) where
  pub open_refused : (x : Refusal) (number : ℕ) → answer ≡ Err x → number ≡ refusal_number x → Done bytes (open_of m b p) number bytes
  unfolding open_of
  open_refused x number a en =
      let q : open_answer m b p ≡ Err x = sym e ∙ a in
      done bytes bytes (open_of m b p) number h (rw q en) (rw q refl)

  pub open_done : (new : List ℕ) → answer ≡ Ok tt → new ≡ record_bytes (opened m b p) → Done bytes (open_of m b p) 0 new
  unfolding open_of open_host
  open_done new a en =
      let q : open_answer m b p ≡ Ok tt = sym e ∙ a in
      done bytes new (open_of m b p) 0 h (rw q refl) (rw q en)

-- a list of n, of which the first `at` are xs
record Front (n at : ℕ) (xs l : List ℕ) : Type 0 where
  size : length l ≡ n
  is : take at l ≡ xs

front_first : (n m b p : ℕ) (bytes new : List ℕ) → 3 ≤ n → length bytes ≡ n → new ≡ m ∷ b ∷ p ∷ drop 3 bytes → Front n 3 (m ∷ b ∷ p ∷ []) new
front_first n m b p bytes new l h e = record { size = ap length e ∙ omega (arith, length-drop 3 bytes); is = ap (take 3) e }

-- and the marks behind these
front_marks : (n m b p marks : ℕ) (bytes first new : List ℕ) → 4 ≤ n → length bytes ≡ n → first ≡ m ∷ b ∷ p ∷ drop 3 bytes → new ≡ set first marks_at marks →
    Front n 4 (m ∷ b ∷ p ∷ marks ∷ []) new
front_marks n m b p marks bytes first new l h e q = record {
  size = ap length q ∙ length-set first marks_at marks ∙ (front_first n m b p bytes first (omega arith) h e).size;
  is =
      ap (take 4) (q ∙ ap (λ (x : List ℕ). set x marks_at marks) e)
      ∙ ap (λ (x : List ℕ). m ∷ b ∷ p ∷ x) (one (drop 3 bytes) (omega (arith, length-drop 3 bytes)));
}
  where
    one : (x : List ℕ) → 1 ≤ length x → take 1 (set x 0 marks) ≡ marks ∷ []
    one [] s = absurd (omega arith)
    one (y ∷ rest) s = refl

-- the next k are put
front_more : (n at k : ℕ) (xs s old new : List ℕ) → at + k ≤ n → length s ≡ k → Front n at xs old → new ≡ put_part at k old s → Front n (at + k) (xs ++ s) new
front_more n at k xs s old new l e f q = record {
  size = ap length q ∙ same_len_mid at k old s (e ∙ sym (part_length at k old (omega (arith, f.size)))) ∙ f.size;
  is =
      ap (take (at + k)) (q ∙ sym (append_assoc (take at old) s (drop k (drop at old))))
      ∙ take_at (take at old ++ s) (drop k (drop at old)) (at + k) (length-append (take at old) s ∙ sizes)
      ∙ ap (λ (x : List ℕ). x ++ s) f.is;
}
  where
    sizes : length (take at old) + length s ≡ at + k
    sizes = omega (arith, e, take-length at old (omega (arith, f.size)))

front_all : (n : ℕ) (xs l : List ℕ) → Front n n xs l → l ≡ xs
front_all n xs l f = sym (take_all n l (omega (arith, f.size))) ∙ f.is

-- the reset values of a member fill a part of 908 bytes
reset_put : (m at : ℕ) (old part : List ℕ) → at + 908 ≤ length old →
    part ≡ cond (eqb (length (take 908 (drop at old))) 908) (reset_image m) (take 908 (drop at old)) → part ≡ reset_image m
reset_put m at old part h e = e ∙ rw (eq-eqb (length (take 908 (drop at old))) 908 (part_length at 908 old h)) refl

reset_length : (m : ℕ) → length (reset_image m) ≡ 908
unfolding reset_image
reset_length m = table_length (reset_of m) 908

front_reset : (n at m : ℕ) (xs old part : List ℕ) → at + 908 ≤ n → Front n at xs old →
    part ≡ cond (eqb (length (take 908 (drop at old))) 908) (reset_image m) (take 908 (drop at old)) →
    Front n (at + 908) (xs ++ reset_image m) (put_part at 908 old part)
front_reset n at m xs old part l f e =
    front_more n at 908 xs (reset_image m) old _ l (reset_length m) f (ap (put_part at 908 old) (reset_put m at old part (omega (arith, f.size)) e))

module _ (m b p : ℕ) (bytes first : List ℕ) (e : first ≡ m ∷ b ∷ p ∷ drop 3 bytes) where
  pub chip_put : (part : List ℕ) → length bytes ≡ chip_size →
      part ≡ cond (eqb (length (take 908 (drop registers_at first))) 908) (reset_image m) (take 908 (drop registers_at first)) →
      put_part registers_at 908 first part ≡ chip_bytes (new_chip m b p)
  unfolding chip_bytes new_chip
  chip_put part h ep =
      let f = front_first chip_size m b p bytes first (omega arith) h e in
      front_all chip_size _ _ (front_reset chip_size registers_at m (m ∷ b ∷ p ∷ []) first part (omega arith) f ep)

  pub record_put : (marked part last : List ℕ) → length bytes ≡ record_size → marked ≡ set first marks_at free →
      part ≡ cond (eqb (length (take 908 (drop settings_at marked))) 908) (reset_image m) (take 908 (drop settings_at marked)) →
      last ≡ cond (eqb (length (take 908 (drop image_at (put_part settings_at 908 marked part)))) 908) (reset_image m)
      (take 908 (drop image_at (put_part settings_at 908 marked part))) →
      put_part image_at 908 (put_part settings_at 908 marked part) last ≡ record_bytes (opened m b p)
  unfolding record_bytes opened
  record_put marked part last h em ep el =
      let f = front_marks record_size m b p free bytes first marked (omega arith) h e em in
      let g = front_reset record_size settings_at m (m ∷ b ∷ p ∷ free ∷ []) marked part (omega arith) f ep in
      front_all record_size _ _
      (front_reset record_size image_at m ((m ∷ b ∷ p ∷ free ∷ []) ++ reset_image m) (put_part settings_at 908 marked part) last (omega arith) g el)

-- ---- chips

abbrev pub ChipDone : List ℕ → Answer → Chip → ℕ → List ℕ → Type 0
ChipDone bytes answer c number new = (number ≡ chip_number bytes answer) × (new ≡ chip_after bytes answer c)

pub chip_wrong_size : (bytes : List ℕ) (answer : Answer) (c : Chip) (number : ℕ) → (length bytes ≡ chip_size → ⊥) → number ≡ refusal_number Unsound →
    ChipDone bytes answer c number bytes
unfolding chip_number chip_after when_sized
chip_wrong_size bytes answer c number n e = (rw (chip_unsized bytes n) e, rw (chip_unsized bytes n) refl)

chip_done : (bytes new : List ℕ) (answer : Answer) (c : Chip) (number : ℕ) → length bytes ≡ chip_size → number ≡ answer_number answer →
    new ≡ cond (accepted answer) (chip_bytes c) bytes → ChipDone bytes answer c number new
unfolding chip_number chip_after when_sized
chip_done bytes new answer c number h en eb = (rw (chip_sized_lem bytes h) en, rw (chip_sized_lem bytes h) eb)

module _ (m b p : ℕ) (bytes : List ℕ) (answer : Answer) (e : answer ≡ open_answer m b p) (h : length bytes ≡ chip_size) where
  pub at_reset_refused : (x : Refusal) (number : ℕ) → answer ≡ Err x → number ≡ refusal_number x →
      ChipDone bytes (at_reset_of m b p).answer (at_reset_of m b p).chip number bytes
  unfolding at_reset_of
  at_reset_refused x number a en =
      let q : open_answer m b p ≡ Err x = sym e ∙ a in
      chip_done bytes bytes (at_reset_of m b p).answer (at_reset_of m b p).chip number h (rw q en) (rw q refl)

  pub at_reset_done : (new : List ℕ) → answer ≡ Ok tt → new ≡ chip_bytes (new_chip m b p) →
      ChipDone bytes (at_reset_of m b p).answer (at_reset_of m b p).chip 0 new
  unfolding at_reset_of opens
  at_reset_done new a en =
      let q : open_answer m b p ≡ Ok tt = sym e ∙ a in
      chip_done bytes new (at_reset_of m b p).answer (at_reset_of m b p).chip 0 h (rw q refl) (rw q en)

module _ (bytes : List ℕ) (h : length bytes ≡ chip_size) where
  -- the registers are stored behind the front
  registers_put : (registers : List ℕ) →
      put_part registers_at 908 bytes registers ≡ chip_bytes (chip_of (get_or bytes 0 0) (get_or bytes 1 0) (get_or bytes 2 0) registers)
  unfolding chip_bytes
  registers_put registers =
      ap (λ (l : List ℕ). take registers_at bytes ++ l)
      (ap (λ (l : List ℕ). registers ++ l) (drop-drop 908 registers_at bytes ∙ drop_of_length-le bytes {i = chip_size} (omega arith)) ∙ append-nil registers)
      ∙ front bytes registers (omega arith)

  pub chip_lost_done : (part : List ℕ) →
      part ≡ cond (eqb (length (take 908 (drop registers_at bytes))) 908) (Rattle.chip.specs.Chip.power_lost_of (chip_of (get_or bytes 0 0) 0 0 (take 908 (drop registers_at bytes)))).registers (take 908 (drop registers_at bytes)) →
      ChipDone bytes (Ok tt) (Rattle.chip.specs.Chip.power_lost_of (chip_in bytes)) 0 (put_part registers_at 908 bytes part)
  unfolding chip_in Rattle.chip.specs.Chip.power_lost_of
  chip_lost_done part e =
      let lost : List ℕ = cond (ltb (get_or bytes 0 0) 5) (reset_image (get_or bytes 0 0)) (take 908 (drop registers_at bytes)) in
      let whole : part ≡ lost = e ∙ ap (λ (b : Bool). cond b lost (take 908 (drop registers_at bytes))) (eq-eqb (length (take 908 (drop registers_at bytes))) 908 (part_length registers_at 908 bytes (omega arith))) in
      chip_done bytes _ (Ok tt) _ 0 h refl (ap (put_part registers_at 908 bytes) whole ∙ registers_put lost)

  pub feed_done : (list part : List ℕ) (answer : Answer) (number : ℕ) →
      answer ≡ feed_answer (chip_of (get_or bytes 0 0) (get_or bytes 1 0) (get_or bytes 2 0) (take 908 (drop registers_at bytes))) list →
      part ≡ (feed_of (chip_of (get_or bytes 0 0) (get_or bytes 1 0) (get_or bytes 2 0) (take 908 (drop registers_at bytes))) list).chip.registers →
      number ≡ answer_number answer →
      ChipDone bytes (feed_of (chip_in bytes) list).answer (feed_of (chip_in bytes) list).chip number (put_part registers_at 908 bytes part)
  unfolding chip_in feed_of
  feed_done list part answer number ea ep en =
      chip_done bytes _ _ _ number h (en ∙ ap answer_number ea)
      (ap (put_part registers_at 908 bytes) ep ∙ kept (accepted (feed_answer c list)) (apply_all c.member c.bus c.pins c.registers (transactions list)))
    where
      c : Chip
      c = chip_of (get_or bytes 0 0) (get_or bytes 1 0) (get_or bytes 2 0) (take 908 (drop registers_at bytes))

      kept : (t : Bool) (new : List ℕ) → put_part registers_at 908 bytes (cond t new (take 908 (drop registers_at bytes))) ≡
          cond t (chip_bytes (chip_of (get_or bytes 0 0) (get_or bytes 1 0) (get_or bytes 2 0) (cond t new (take 908 (drop registers_at bytes))))) bytes
      kept true new = registers_put new
      kept false new = part_same registers_at 908 bytes

-- ---- faults

-- a bool as a number
pub bool_number : (b : Bool) → bool_byte b ≡ cond b 1 0
bool_number true = refl
bool_number false = refl

-- Faults on a record that was read: its answer, and the result
pub faults_done : (bytes : List ℕ) → length bytes ≡ record_size → (r : Record) → r ≡ record_in bytes → (given result : List ℕ)
    (answer : faults.Answer) (new : List ℕ) → answer ≡ faults_answer r given result → new ≡ faults_result r given result →
    (faults_answer_by bytes (faults_answer (record_in bytes) given result) ≡ answer) × (new ≡ buffer_after bytes (faults_result (record_in bytes) given result) result)
unfolding faults_answer_by buffer_after
faults_done bytes h r read given result answer new ea en =
    (rw (record_sized_lem bytes h, sym read) (sym ea), rw (record_sized_lem bytes h, sym read) en)
