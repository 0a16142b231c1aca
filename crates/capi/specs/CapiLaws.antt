-- Laws of the C interface: records and chips read back from their bytes, what a refused call leaves, and what 0 stores.
-- Assumes nothing.
use Rattle.std.specs.Prelude.{Ok, Err, ◌≡◌, Bool, true, false, cond, ℕ, suc, ◌+◌, ◌≤◌, leb, eqb, length, get_or, set}
use Rattle.std.proofs.Math.Path.{refl, sym, ap}
use Rattle.std.proofs.Common.{ap₂, ◌∙◌, arith, length-append, take_all, take_at, drop_at, take-add, drop-drop}
use Rattle.std.proofs.lemmas.Bool.{false≢true}
use mathlib.Core.List.{List, [], ◌∷◌, ◌++◌, append_assoc, append-nil}
use borrow.Author.Tests.{eq-eqb, ne_eqb, eqb-true, le-leb}
use Rattle.std.proofs.Math.ListN.{take, drop, length-drop, take-append-drop}
use Rattle.map.specs.declared.refusals.Refusal.{Refusal}
use Rattle.map.specs.declared.refusals.Refusal.TheVariants.{Member, Bus, Pins, NotWritable, ReservedBit, NoDot, Level, GroupOrState, SceneLength, BufferShort, ListSizes, FaultLength, Unsound, RoundLimit, NotItsPlace, Locked, NotLockable, NoTransaction}
use Rattle.map.specs.Refusals.{Answer, refusal_number, answer_number, accepted}
use Rattle.burst.specs.BurstLaws.{and_left}
use Rattle.host.specs.declared.Record.{Record}
use Rattle.host.specs.declared.Changed.{Changed}
use Rattle.host.specs.Record.{record_of, marked_as}
use Rattle.update.specs.declared.NotListed.TheVariants.{Short, Refused}
use Rattle.update.specs.declared.Sent.{Sent}
use Rattle.update.specs.Update.{ListAnswer, listed, is_listed, list_number}
use Rattle.chip.specs.declared.Chip.{Chip}
use Rattle.chip.specs.Chip.{chip_of}
use Rattle.capi.specs.Capi.{header_in, marks_at, settings_at, settings_in, image_at, image_in, record_in, header_bytes, record_bytes, registers_at, chip_in, chip_bytes, record_size, record_sized, place_at, records_in, records_bytes, round_sized, chip_size, chip_sized, when_sized, setting_number, setting_bytes, chip_number, chip_after, list_answer, list_bytes, value_after, n_after, t_after, stored_after, needed_after}

-- ---- the bytes read back

-- the three bytes before the registers of a chip
pub front : (bytes l : List ℕ) → 3 ≤ length bytes → take 3 bytes ++ l ≡ get_or bytes 0 0 ∷ get_or bytes 1 0 ∷ get_or bytes 2 0 ∷ l
front [] l h = absurd (omega arith)
front (m ∷ []) l h = absurd (omega arith)
front (m ∷ b ∷ []) l h = absurd (omega arith)
front (m ∷ b ∷ p ∷ rest) l h = refl

-- the four bytes before the images of a record
header_front : (bytes l : List ℕ) → 4 ≤ length bytes → take settings_at bytes ++ l ≡ header_bytes (header_in bytes) ++ l
unfolding header_in
header_front [] l h = absurd (omega arith)
header_front (m ∷ []) l h = absurd (omega arith)
header_front (m ∷ b ∷ []) l h = absurd (omega arith)
header_front (m ∷ b ∷ p ∷ []) l h = absurd (omega arith)
header_front (m ∷ b ∷ p ∷ k ∷ rest) l h = refl

-- they and the settings
front_settings : (bytes : List ℕ) → 4 ≤ length bytes → take image_at bytes ≡ take settings_at bytes ++ take 908 (drop settings_at bytes)
front_settings [] h = absurd (omega arith)
front_settings (m ∷ []) h = absurd (omega arith)
front_settings (m ∷ b ∷ []) h = absurd (omega arith)
front_settings (m ∷ b ∷ p ∷ []) h = absurd (omega arith)
front_settings (m ∷ b ∷ p ∷ k ∷ rest) h = refl

-- the record that the bytes begin with, with another image
image_behind : (bytes : List ℕ) → 4 ≤ length bytes → (image : List ℕ) →
    record_bytes (record_of (header_in bytes) (settings_in bytes) image) ≡ take image_at bytes ++ image
unfolding record_bytes
image_behind bytes h image =
    sym (header_front bytes (settings_in bytes ++ image) h)
    ∙ sym (append_assoc (take settings_at bytes) (settings_in bytes) image)
    ∙ ap (λ (l : List ℕ). l ++ image) (sym (front_settings bytes h))

module _ (bytes : List ℕ) (h : length bytes ≡ record_size) where
  -- the record that the bytes hold, with other settings: only their part of the bytes is another
  pub settings_stored : (settings : List ℕ) → record_bytes (record_of (header_in bytes) settings (image_in bytes)) ≡ take settings_at bytes ++ (settings ++ drop image_at bytes)
  unfolding record_bytes
  settings_stored settings =
      ap (λ (l : List ℕ). header_bytes (header_in bytes) ++ (settings ++ l)) (take_all 908 (drop image_at bytes) (omega (arith, length-drop image_at bytes)))
      ∙ sym (header_front bytes (settings ++ drop image_at bytes) (omega arith))

  -- with another image
  pub image_stored : (image : List ℕ) → record_bytes (record_of (header_in bytes) (settings_in bytes) image) ≡ take image_at bytes ++ image
  image_stored image = image_behind bytes (omega arith) image

  -- and with its own: bytes of the right size are those of the record that they hold
  pub record_round : record_bytes (record_in bytes) ≡ bytes
  unfolding record_in
  record_round =
      image_stored (image_in bytes)
      ∙ ap (λ (l : List ℕ). take image_at bytes ++ l) (take_all 908 (drop image_at bytes) (omega (arith, length-drop image_at bytes)))
      ∙ take-append-drop image_at bytes

-- a record with other marks: only their byte is another
pub marks_stored : (r : Record) (marks : ℕ) → set (record_bytes r) marks_at marks ≡ record_bytes (record_of (marked_as r.header marks) r.settings r.image)
unfolding record_bytes
marks_stored r marks = refl

-- bytes of the right size are those of the chip that they hold
pub chip_round : (bytes : List ℕ) → length bytes ≡ chip_size → chip_bytes (chip_in bytes) ≡ bytes
unfolding chip_in chip_bytes
chip_round bytes h =
    ap (λ (l : List ℕ). get_or bytes 0 0 ∷ get_or bytes 1 0 ∷ get_or bytes 2 0 ∷ l) (take_all 908 (drop registers_at bytes) (omega (arith, length-drop registers_at bytes)))
    ∙ sym (front bytes (drop registers_at bytes) (omega arith))
    ∙ take-append-drop registers_at bytes

-- a record with whole images
abbrev pub Whole : Record → Type 0
Whole r = (length r.settings ≡ 908) × (length r.image ≡ 908)

-- a record is read back from bytes that begin with its own
pub record_begins : (r : Record) → Whole r → (rest : List ℕ) → record_in (record_bytes r ++ rest) ≡ r
unfolding record_in header_in record_bytes
record_begins r w rest =
    ap₂ (λ (s i : List ℕ). record_of r.header s (take 908 i))
    (ap (take 908) (append_assoc r.settings r.image rest) ∙ take_at r.settings (r.image ++ rest) 908 w.0)
    (ap (drop 908) (append_assoc r.settings r.image rest) ∙ drop_at r.settings (r.image ++ rest) 908 w.0)
    ∙ ap (λ (l : List ℕ). record_of r.header r.settings l) (take_at r.image rest 908 w.1)

-- a record is read back from its bytes
pub record_back : (r : Record) → length r.settings ≡ 908 → length r.image ≡ 908 → record_in (record_bytes r) ≡ r
record_back r hs hi = ap record_in (sym (append-nil (record_bytes r))) ∙ record_begins r (hs, hi) []

-- bytes begin with those of the record that they begin with
pub record_first : (bytes : List ℕ) → record_size ≤ length bytes → record_bytes (record_in bytes) ≡ take record_size bytes
unfolding record_in
record_first bytes h = image_behind bytes (omega arith) (image_in bytes) ∙ sym (take-add image_at 908 bytes)

-- bytes of the right size are those of the four records that they hold
pub records_round : (bytes : List ℕ) → length bytes ≡ place_at 4 → records_bytes (records_in bytes) ≡ bytes
records_round bytes h =
    rw (
      record_first (drop (place_at 0) bytes) (omega (arith, length-drop (place_at 0) bytes)),
      record_first (drop (place_at 1) bytes) (omega (arith, length-drop (place_at 1) bytes)),
      record_first (drop (place_at 2) bytes) (omega (arith, length-drop (place_at 2) bytes)),
      record_first (drop (place_at 3) bytes) (omega (arith, length-drop (place_at 3) bytes)),
    ) joined
  where
    rest : ℕ → List ℕ
    rest k = drop (place_at k) bytes

    next : (k : ℕ) → take record_size (rest k) ++ drop (place_at k + record_size) bytes ≡ rest k
    next k = ap (λ (l : List ℕ). take record_size (rest k) ++ l) (sym (drop-drop record_size (place_at k) bytes)) ∙ take-append-drop record_size (rest k)

    joined : take record_size (rest 0) ++ (take record_size (rest 1) ++ (take record_size (rest 2) ++ take record_size (rest 3))) ≡ bytes
    joined =
        ap (λ (l : List ℕ). take record_size (rest 0) ++ (take record_size (rest 1) ++ (take record_size (rest 2) ++ l)))
        (take_all record_size (rest 3) (omega (arith, length-drop (place_at 3) bytes)))
        ∙ ap (λ (l : List ℕ). take record_size (rest 0) ++ (take record_size (rest 1) ++ l)) (next 2)
        ∙ ap (λ (l : List ℕ). take record_size (rest 0) ++ l) (next 1)
        ∙ next 0

-- and a chip
pub chip_back : (c : Chip) → length c.registers ≡ 908 → chip_in (chip_bytes c) ≡ c
unfolding chip_in chip_bytes
chip_back c h = ap (λ (l : List ℕ). chip_of c.member c.bus c.pins l) (take_all 908 c.registers (omega arith))

-- ---- sizes

pub record_sized_lem : (bytes : List ℕ) → length bytes ≡ record_size → record_sized bytes ≡ true
unfolding record_sized
record_sized_lem bytes h = eq-eqb (length bytes) record_size h

pub record_unsized : (bytes : List ℕ) → (length bytes ≡ record_size → ⊥) → record_sized bytes ≡ false
unfolding record_sized
record_unsized bytes n = ne_eqb (length bytes) record_size n

pub chip_sized_lem : (bytes : List ℕ) → length bytes ≡ chip_size → chip_sized bytes ≡ true
unfolding chip_sized
chip_sized_lem bytes h = eq-eqb (length bytes) chip_size h

pub chip_unsized : (bytes : List ℕ) → (length bytes ≡ chip_size → ⊥) → chip_sized bytes ≡ false
unfolding chip_sized
chip_unsized bytes n = ne_eqb (length bytes) chip_size n

module _ (bytes : List ℕ) (present : ℕ) where
  pub round_sized_lem : length bytes ≡ place_at 4 → present ≤ 15 → round_sized bytes present ≡ true
  unfolding round_sized
  round_sized_lem h p = rw (eq-eqb (length bytes) (place_at 4) h, le-leb present 15 p) refl

  pub wrong_records : (length bytes ≡ place_at 4 → ⊥) → round_sized bytes present ≡ false
  unfolding round_sized
  wrong_records n = rw (ne_eqb (length bytes) (place_at 4) n) refl

  pub right_records : length bytes ≡ place_at 4 → leb present 15 ≡ round_sized bytes present
  unfolding round_sized
  right_records h = rw (eq-eqb (length bytes) (place_at 4) h) refl

  pub round_size_lem : round_sized bytes present ≡ true → length bytes ≡ place_at 4
  unfolding round_sized
  round_size_lem s = eqb-true (length bytes) (place_at 4) (and_left (eqb (length bytes) (place_at 4)) (leb present 15) s)

-- a record with whole images has the size of a record
pub record_length : (r : Record) → length r.settings ≡ 908 → length r.image ≡ 908 → length (record_bytes r) ≡ record_size
unfolding record_bytes
record_length r hs hi = omega (arith, length-append r.settings r.image)

-- and a chip that of a chip
pub chip_length : (c : Chip) → length c.registers ≡ 908 → length (chip_bytes c) ≡ chip_size
unfolding chip_bytes
chip_length c h = omega (arith, h)

-- ---- 0 is acceptance alone

-- no refusal has the number 0
refusal_some : (x : Refusal) → refusal_number x ≡ 0 → ⊥
refusal_some Member e = omega arith
refusal_some Bus e = omega arith
refusal_some Pins e = omega arith
refusal_some NotWritable e = omega arith
refusal_some ReservedBit e = omega arith
refusal_some NoDot e = omega arith
refusal_some Level e = omega arith
refusal_some GroupOrState e = omega arith
refusal_some SceneLength e = omega arith
refusal_some BufferShort e = omega arith
refusal_some ListSizes e = omega arith
refusal_some FaultLength e = omega arith
refusal_some Unsound e = omega arith
refusal_some RoundLimit e = omega arith
refusal_some NotItsPlace e = omega arith
refusal_some Locked e = omega arith
refusal_some NotLockable e = omega arith
refusal_some NoTransaction e = omega arith

-- an accepted call answers 0
pub accepted_zero : (answer : Answer) → accepted answer ≡ true → answer_number answer ≡ 0
accepted_zero (Ok u) e = refl
accepted_zero (Err x) e = absurd (false≢true e)

-- a call that answers 0 was accepted
pub zero_accepted : (answer : Answer) → answer_number answer ≡ 0 → accepted answer ≡ true
zero_accepted (Ok u) e = refl
zero_accepted (Err x) e = absurd (refusal_some x e)

-- and one that writes a list wrote it
pub zero_listed : (answer : ListAnswer) → list_number answer ≡ 0 → is_listed answer ≡ true
zero_listed (Ok l) e = refl
zero_listed (Err (Short needed)) e = absurd (omega arith)
zero_listed (Err (Refused x)) e = absurd (refusal_some x e)

-- ---- "A refused call changes no byte that was lent to it": calls that answer a number alone

answer_keeps : (answer : Answer) (new old : List ℕ) → (answer_number answer ≡ 0 → ⊥) → cond (accepted answer) new old ≡ old
answer_keeps (Ok u) new old n = absurd (n refl)
answer_keeps (Err x) new old n = refl

-- of a setting
pub setting_keeps : (bytes : List ℕ) (x : Changed) → (setting_number bytes x ≡ 0 → ⊥) → setting_bytes bytes x ≡ bytes
unfolding setting_number setting_bytes
setting_keeps bytes x n = answer_keeps (when_sized (record_sized bytes) x.answer) (record_bytes x.host) bytes n

-- of a call on a chip
pub chip_keeps : (bytes : List ℕ) (answer : Answer) (c : Chip) → (chip_number bytes answer ≡ 0 → ⊥) → chip_after bytes answer c ≡ bytes
unfolding chip_number chip_after
chip_keeps bytes answer c n = answer_keeps (when_sized (chip_sized bytes) answer) (chip_bytes c) bytes n

-- ---- what a list's answer stores

-- a refusal carries only its number, so that there is nothing to store
pub refused_stores : (number place : ℕ) (x : Refusal) (old : ℕ) → value_after number (suc place) (refusal_number x ∷ []) old ≡ old
unfolding value_after
refused_stores number place x old = same (eqb (refusal_number x) number)
  where
    same : (b : Bool) → cond b old old ≡ old
    same true = refl
    same false = refl

-- an answer of 0 is a list with the n and t that are stored
pub zero_stores : (answer : ListAnswer) (n t : ℕ) → list_number answer ≡ 0 → answer ≡ listed (n_after answer n) (t_after answer t)
unfolding value_after
zero_stores (Ok l) n t e = refl
zero_stores (Err (Short needed)) n t e = absurd (omega arith)
zero_stores (Err (Refused x)) n t e = absurd (refusal_some x e)

-- a list's answer that is no list leaves n, t and what depends on it
pub record Kept (answer : ListAnswer) : Type 0 where
  pub n_stays : (n : ℕ) → n_after answer n ≡ n
  pub t_stays : (t : ℕ) → t_after answer t ≡ t
  pub unlisted : is_listed answer ≡ false

pub list_keeps : (answer : ListAnswer) → (list_number answer ≡ 0 → ⊥) → Kept answer
unfolding value_after
list_keeps (Ok l) z = absurd (z refl)
list_keeps (Err (Short needed)) z = record { n_stays = λ n. refl; t_stays = λ t. refl; unlisted = refl }
list_keeps (Err (Refused x)) z = record { n_stays = λ n. refused_stores 0 0 x n; t_stays = λ t. refused_stores 0 1 x t; unlisted = refl }

-- and what an update stores of it
pub stored_keeps : (answer : ListAnswer) (count old : ℕ) → (list_number answer ≡ 0 → ⊥) → stored_after answer count old ≡ old
unfolding value_after
stored_keeps (Ok l) count old z = absurd (z refl)
stored_keeps (Err (Short needed)) count old z = refl
stored_keeps (Err (Refused x)) count old z = refused_stores 0 2 x old

-- "10 of lp586x_update alone stores the length needed"
pub needed_keeps : (answer : ListAnswer) (needed : ℕ) → (list_number answer ≡ refusal_number BufferShort → ⊥) → needed_after answer needed ≡ needed
unfolding value_after
needed_keeps (Ok l) needed z = refl
needed_keeps (Err (Short size)) needed z = absurd (z refl)
needed_keeps (Err (Refused x)) needed z = refused_stores (refusal_number BufferShort) 0 x needed

-- the record stays
pub bytes_keep : (bytes : List ℕ) (x : Sent) → (list_number (list_answer bytes x) ≡ 0 → ⊥) → list_bytes bytes x ≡ bytes
unfolding list_bytes
bytes_keep bytes x z = rw (list_keeps (list_answer bytes x) z).unlisted refl
