-- The steps of the calls, over plain variables.
-- Assumes nothing.
use mathlib.Core.Path.{◌≡◌, refl, sym, ap, ◌∙◌}
use mathlib.Core.Bool.{Bool, true, false, cond, beq, ◌&&◌, ◌||◌}
use mathlib.Core.List.{List}
use Prim.Native.Nat.{ℕ, ◌+◌, ◌-◌, ◌*◌, ◌/◌, ◌%◌, ◌^◌, ◌<◌, ◌≤◌}
use native.Mathlib.Nat.{zero-add, add-zero}
use native.Mathlib.Numerals.{add-one}
use native.Mathlib.Decide.{ℕ_discrete, dec_lt}
use native.Mathlib.Omega.{arith}
use borrow.Author.Tests.{ne_eqb, lt-ltb}
use lib.Dec.{ltb, eqb}
use lib.ListN.{length, get_or, set, length-set}
use lib.Seq.{ext_get_or}
use Rattle.map.specs.declared.dots.Field.{Field}
use Rattle.map.specs.declared.dots.Field.TheVariants.{Open, Short}
use Rattle.map.specs.Refusals as refusals
use Rattle.std.proofs.Common.{Ok, Err}
use Rattle.map.specs.declared.refusals.Refusal.{Refusal}
use Rattle.map.specs.Refusals.{refusal_number, accepted}
use Rattle.map.specs.Map.{lines_of, columns_of, dot_in, number_in, address_of, shift_of}
use Rattle.map.specs.Lists.{filled}
use Rattle.map.specs.ListLaws.{filled_none, filled_more, filled_length, filled_in, filled_out}
use Rattle.dots.specs.Dots.{wide_of, level_of}
use Rattle.host.specs.declared.Record.{Record}
use Rattle.faults.specs.Faults.{fault_byte, bit_set, is_set, tested_from, is_dim, has_dot, lamp_reading, reading, readings, some_below, is_faulty, some_faulty, opens_agree, shorts_agree, faults_checked, agreed, answered, faults_answer, faults_result}
use Rattle.faults.proofs.FaultLaws.{Taken, faults_taken}
use Rattle.faults.specs.OldReadings.{by_bits, bits_reading}
use Rattle.faults.specs.Passes.{ReadTo, unless_dim, tested_at}
use Rattle.faults.specs.declared.Agreement.{Agreement}

-- ---- the bits of a dot

-- a bit as a number
bit_number : (byte k : ℕ) → byte / 2 ^ k % 2 ≡ cond (bit_set byte k) 1 0
unfolding bit_set
bit_number byte k = go (byte / 2 ^ k) (ℕ_discrete (byte / 2 ^ k % 2) 1)
  where
    go : (x : ℕ) → Dec (x % 2 ≡ 1) → x % 2 ≡ cond (eqb (x % 2) 1) 1 0
    go x (yes e) = rw e refl
    go x (no n) = rw (ne_eqb (x % 2) 1 n) (omega arith)

-- a dot's bit in the bytes that begin at `first`, 0 where the member has not the dot
faulty_bit : (f : Field) (first m d : ℕ) (bytes : List ℕ) (exists : Bool) (r : ℕ) →
    address_of f (d / 18) (d % 18) - 0x064 ≡ first + (3 * (d / 18) + d % 18 / 8) → shift_of f (d % 18) ≡ d % 18 % 8 → exists ≡ has_dot m d →
    r ≡ cond exists (get_or bytes (first + (3 * (d / 18) + d % 18 / 8)) 0 / 2 ^ (d % 18 % 8) % 2) 0 → r ≡ cond (is_faulty f m bytes d) 1 0
unfolding is_faulty is_set fault_byte
faulty_bit f first m d bytes exists r ea eb ee er = er ∙ rw (ea, eb, sym ee) (go exists (get_or bytes (first + (3 * (d / 18) + d % 18 / 8)) 0))
  where
    go : (b : Bool) (byte : ℕ) → cond b (byte / 2 ^ (d % 18 % 8) % 2) 0 ≡ cond (b && bit_set byte (d % 18 % 8)) 1 0
    go true byte = bit_number byte (d % 18 % 8)
    go false byte = refl

-- ---- read_line

reading_is : (m d : ℕ) (bytes : List ℕ) (exists : Bool) (opened shorted r : ℕ) → exists ≡ has_dot m d →
    opened ≡ cond (is_faulty Open m bytes d) 1 0 → shorted ≡ cond (is_faulty Short m bytes d) 1 0 →
    r ≡ cond exists (opened + 2 * shorted) 4 → r ≡ bits_reading m bytes d
unfolding bits_reading by_bits is_faulty
reading_is m d bytes exists opened shorted r ee eo es er =
    er ∙ rw (eo, es, sym ee) (go exists (is_set Open bytes d) (is_set Short bytes d))
  where
    go : (b o s : Bool) → cond b (cond (b && o) 1 0 + 2 * cond (b && s) 1 0) 4 ≡ cond b (by_bits o s) 4
    go true false false = refl
    go true true false = refl
    go true false true = refl
    go true true true = refl
    go false o s = refl

-- a count of the numbers at which f holds is above 0 where f holds at some number
some_more : (f : ℕ → Bool) (d count bit : ℕ) → bit ≡ cond (f d) 1 0 → ltb 0 count ≡ some_below f d → ltb 0 (count + bit) ≡ some_below f (d + 1)
unfolding some_below
some_more f d count bit eb e = rw (add-one, eb, sym e) (go (f d))
  where
    go : (b : Bool) → ltb 0 (count + cond b 1 0) ≡ (b || ltb 0 count)
    go true = lt-ltb 0 (count + 1) (omega arith)
    go false = rw add-zero refl

read_more : (m lines columns d line sink : ℕ) (bytes old result : List ℕ) (opens shorts : ℕ) (exists : Bool) (opened shorted r : ℕ) →
    d < 198 → line ≡ d / 18 → sink ≡ d % 18 → lines ≡ lines_of m → columns ≡ columns_of m → exists ≡ dot_in lines columns line sink →
    (opened ≡ cond exists (get_or bytes (1 + (3 * line + sink / 8)) 0 / 2 ^ (sink % 8) % 2) 0) × (opened < 2) →
    (shorted ≡ cond exists (get_or bytes (34 + (3 * line + sink / 8)) 0 / 2 ^ (sink % 8) % 2) 0) × (shorted < 2) →
    r ≡ cond exists (opened + 2 * shorted) 4 → ReadTo m bytes old result opens shorts d →
    ReadTo m bytes old (set result d r) (opens + opened) (shorts + shorted) (d + 1)
unfolding has_dot number_in address_of shift_of
read_more m lines columns d line sink bytes old result opens shorts exists opened shorted r h hl hs el ec ee eo es er so = record {
  within = omega arith;
  room = length-set result d r ∙ so.room;
  stored = sym (filled_more (bits_reading m bytes) 0 d old ∙ rw (zero-add d, sym so.stored, sym value) refl);
  opens_few = omega (arith, so.opens_few, eo.1);
  shorts_few = omega (arith, so.shorts_few, es.1);
  opens_some = some_more (is_faulty Open m bytes) d opens opened open_is so.opens_some;
  shorts_some = some_more (is_faulty Short m bytes) d shorts shorted short_is so.shorts_some;
}
  where
    has : exists ≡ has_dot m d
    has = rw (sym el, sym ec, sym hl, sym hs) ee

    open_is : opened ≡ cond (is_faulty Open m bytes d) 1 0
    open_is = faulty_bit Open 1 m d bytes exists opened (omega arith) refl has (rw (hl, hs) at eo.0)

    short_is : shorted ≡ cond (is_faulty Short m bytes d) 1 0
    short_is = faulty_bit Short 34 m d bytes exists shorted (omega arith) refl has (rw (hl, hs) at es.0)

    value : r ≡ bits_reading m bytes d
    value = reading_is m d bytes exists opened shorted r has open_is short_is er

-- where the buffer `given` and the counts before the line come from dots that are read, the line's first sinks are read too
pub record LineTo (m line : ℕ) (bytes given : List ℕ) (opens₀ shorts₀ : ℕ) (result : List ℕ) (opens shorts sink : ℕ) : Type 0 where
  pub within : sink ≤ 18
  pub room : length result ≡ length given
  pub opens_few : opens ≤ 18 * line + sink
  pub shorts_few : shorts ≤ 18 * line + sink
  pub read : (old : List ℕ) → ReadTo m bytes old given opens₀ shorts₀ (18 * line) → ReadTo m bytes old result opens shorts (18 * line + sink)

pub line_none : (m line : ℕ) (bytes given : List ℕ) (opens shorts : ℕ) → opens ≤ 18 * line → shorts ≤ 18 * line →
    LineTo m line bytes given opens shorts given opens shorts 0
line_none m line bytes given opens shorts ho hs = record {
  within = omega arith;
  room = refl;
  opens_few = omega arith;
  shorts_few = omega arith;
  read = λ old so. rw add-zero so;
}

pub line_more : (m lines columns line sink : ℕ) (bytes given : List ℕ) (opens₀ shorts₀ : ℕ) (result : List ℕ) (opens shorts : ℕ) (exists : Bool)
    (opened shorted r : ℕ) → line < 11 → sink < 18 → lines ≡ lines_of m → columns ≡ columns_of m → exists ≡ dot_in lines columns line sink →
    (opened ≡ cond exists (get_or bytes (1 + (3 * line + sink / 8)) 0 / 2 ^ (sink % 8) % 2) 0) × (opened < 2) →
    (shorted ≡ cond exists (get_or bytes (34 + (3 * line + sink / 8)) 0 / 2 ^ (sink % 8) % 2) 0) × (shorted < 2) →
    r ≡ cond exists (opened + 2 * shorted) 4 → LineTo m line bytes given opens₀ shorts₀ result opens shorts sink →
    LineTo m line bytes given opens₀ shorts₀ (set result (18 * line + sink) r) (opens + opened) (shorts + shorted) (sink + 1)
line_more m lines columns line sink bytes given opens₀ shorts₀ result opens shorts exists opened shorted r hl hs el ec ee eo es er so = record {
  within = omega arith;
  room = length-set result (18 * line + sink) r ∙ so.room;
  opens_few = omega (arith, so.opens_few, eo.1);
  shorts_few = omega (arith, so.shorts_few, es.1);
  read =
      λ old before.
      rw (next (18 * line) sink) at
      (read_more m lines columns (18 * line + sink) line sink bytes old result opens shorts exists opened shorted r (omega arith) (omega arith)
      (omega arith) el ec ee eo es er (so.read old before));
}
  where
    next : (x s : ℕ) → x + s + 1 ≡ x + (s + 1)
    next x s = omega arith

pub line_whole : (m line : ℕ) (bytes given : List ℕ) (opens₀ shorts₀ : ℕ) (result : List ℕ) (opens shorts sink : ℕ) → 18 ≤ sink →
    LineTo m line bytes given opens₀ shorts₀ result opens shorts sink → (old : List ℕ) → ReadTo m bytes old given opens₀ shorts₀ (18 * line) →
    ReadTo m bytes old result opens shorts (18 * line + 18)
line_whole m line bytes given opens₀ shorts₀ result opens shorts sink h so old before =
    let e : sink ≡ 18 = omega (arith, so.within) in
    rw e at (so.read old before)

-- ---- read_all

pub read_none : (m : ℕ) (bytes old : List ℕ) → ReadTo m bytes old old 0 0 (18 * 0)
unfolding some_below
read_none m bytes old = record {
  within = omega arith;
  room = refl;
  stored = sym (filled_none (bits_reading m bytes) 0 old);
  opens_few = omega arith;
  shorts_few = omega arith;
  opens_some = refl;
  shorts_some = refl;
}

pub next_line_lem : (m : ℕ) (bytes old result : List ℕ) (opens shorts line : ℕ) → ReadTo m bytes old result opens shorts (18 * line + 18) →
    ReadTo m bytes old result opens shorts (18 * (line + 1))
next_line_lem m bytes old result opens shorts line so = rw (next line) so
  where
    next : (l : ℕ) → 18 * (l + 1) ≡ 18 * l + 18
    next l = omega arith

pub read_whole : (m : ℕ) (bytes old result : List ℕ) (opens shorts line : ℕ) → 11 ≤ line → ReadTo m bytes old result opens shorts (18 * line) →
    (result ≡ filled (bits_reading m bytes) 0 198 old) × ((ltb 0 opens ≡ some_faulty Open m bytes) × (ltb 0 shorts ≡ some_faulty Short m bytes))
unfolding some_faulty
read_whole m bytes old result opens shorts line h so =
    let e : 18 * line ≡ 198 = omega (arith, so.within) in
    (rw e at so.stored, (rw e at so.opens_some, rw e at so.shorts_some))

-- ---- mark

-- the first d readings are marked
pub record MarkedTo (image old result : List ℕ) (d : ℕ) : Type 0 where
  pub within : d ≤ 198
  pub room : length result ≡ length old
  pub stored : result ≡ filled (tested_at image old) 0 d old

pub marked_none : (image old : List ℕ) → MarkedTo image old old 0
marked_none image old = record { within = omega arith; room = refl; stored = sym (filled_none (tested_at image old) 0 old) }

pub marked_more : (image old result : List ℕ) (d level figure r : ℕ) → d < 198 → 198 ≤ length old → level ≡ level_of image d →
    figure ≡ tested_from (wide_of image) → r ≡ unless_dim (ltb level figure) (get_or result d 0) → MarkedTo image old result d →
    MarkedTo image old (set result d r) (d + 1)
unfolding tested_at is_dim
marked_more image old result d level figure r h room el es er so = record {
  within = omega arith;
  room = length-set result d r ∙ so.room;
  stored = sym (filled_more (tested_at image old) 0 d old ∙ rw (zero-add d, sym so.stored, sym value) refl);
}
  where
    same : get_or result d 0 ≡ get_or old d 0
    same = ap (λ (l : List ℕ). get_or l d 0) so.stored ∙ filled_out (tested_at image old) 0 d old d (λ l u. omega (arith, zero-add d))

    value : r ≡ tested_at image old d
    value = er ∙ rw (el, es, same) refl

pub marked_whole : (image old result : List ℕ) (d : ℕ) → 198 ≤ d → MarkedTo image old result d → result ≡ filled (tested_at image old) 0 198 old
marked_whole image old result d h so = let e : d ≡ 198 = omega (arith, so.within) in rw e at so.stored

-- ---- both passes

pub read_room : (f : ℕ → ℕ) (old new : List ℕ) → new ≡ filled f 0 198 old → 198 ≤ length old → 198 ≤ length new
read_room f old new e h = rw (e, filled_length f 0 198 old) h

both_readings : (m : ℕ) (image bytes : List ℕ) (d : ℕ) → unless_dim (is_dim image d) (bits_reading m bytes d) ≡ reading m image bytes d
unfolding unless_dim bits_reading by_bits reading lamp_reading
both_readings m image bytes d = go (has_dot m d) (is_set Open bytes d) (is_set Short bytes d)
  where
    go : (b o s : Bool) →
        cond (eqb (cond b (by_bits o s) 4) 0) (cond (is_dim image d) 5 0) (cond b (by_bits o s) 4)
        ≡ cond b (lamp_reading o s (is_dim image d)) 4
    go true false false = refl
    go true true false = refl
    go true false true = refl
    go true true true = refl
    go false o s = refl

module _ (r : Record) (bytes result : List ℕ) (h : 198 ≤ length result) where
  abbrev read_by_bits : List ℕ
  read_by_bits = filled (bits_reading r.header.member bytes) 0 198 result

  pub both_passes : filled (tested_at r.image read_by_bits) 0 198 read_by_bits ≡ readings r bytes result
  unfolding readings tested_at
  both_passes =
      ext_get_or 0 _ _ (filled_length _ 0 198 read_by_bits ∙ filled_length _ 0 198 result ∙ sym (filled_length _ 0 198 result)) (λ k l. at k (dec_lt k 198))
    where
      at : (k : ℕ) → Dec (k < 198) →
          get_or (filled (λ d. unless_dim (is_dim r.image d) (get_or read_by_bits d 0)) 0 198 read_by_bits) k 0
          ≡ get_or (filled (reading r.header.member r.image bytes) 0 198 result) k 0
      at k (yes u) =
          filled_in _ 0 198 read_by_bits k (omega arith) (omega arith) (omega (arith, filled_length (bits_reading r.header.member bytes) 0 198 result))
          ∙ ap (unless_dim (is_dim r.image k)) (filled_in _ 0 198 result k (omega arith) (omega arith) (omega arith))
          ∙ both_readings r.header.member r.image bytes k
          ∙ sym (filled_in _ 0 198 result k (omega arith) (omega arith) (omega arith))
      at k (no n) =
          filled_out _ 0 198 read_by_bits k (λ l u. n u) ∙ filled_out _ 0 198 result k (λ l u. n u) ∙ sym (filled_out _ 0 198 result k (λ l u. n u))

-- ---- faults

pub check_passed : (r : Record) (given room : ℕ) (check : refusals.Answer) → check ≡ faults_checked r given room → check ≡ Ok tt → Taken r given room
check_passed r given room check e a = faults_taken r given room (ap accepted (sym e ∙ a))

module _ (r : Record) (bytes result : List ℕ) (check : refusals.Answer) (e : check ≡ faults_checked r (length bytes) (length result)) where
  pub refused_is : (x : Refusal) → check ≡ Err x → (Err x ≡ faults_answer r bytes result) × (result ≡ faults_result r bytes result)
  unfolding faults_answer faults_result answered
  refused_is x a = (rw (sym e ∙ a) refl, rw (sym e ∙ a) refl)

  pub read_is : (read new : List ℕ) (opens shorts : ℕ) (g : Agreement) → check ≡ Ok tt →
      read ≡ filled (bits_reading r.header.member bytes) 0 198 result → new ≡ filled (tested_at r.image read) 0 198 read →
      ltb 0 opens ≡ some_faulty Open r.header.member bytes → ltb 0 shorts ≡ some_faulty Short r.header.member bytes →
      g.opens ≡ beq (bit_set (get_or bytes 0 0) 1) (ltb 0 opens) → g.shorts ≡ beq (bit_set (get_or bytes 0 0) 0) (ltb 0 shorts) →
      (Ok g ≡ faults_answer r bytes result) × (new ≡ faults_result r bytes result)
  unfolding faults_answer faults_result answered opens_agree shorts_agree fault_byte
  read_is read new opens shorts g a er en eo es eg eh = (
    ap (λ (o : Bool). agreed o g.shorts) (eg ∙ ap (beq _) eo) ∙ ap (agreed _) (eh ∙ ap (beq _) es) ∙ rw (sym e ∙ a) refl,
    en ∙ ap (λ (l : List ℕ). filled (tested_at r.image l) 0 198 l) er
        ∙ both_passes r bytes result (check_passed r _ _ check e a).result ∙ rw (sym e ∙ a) refl,
  )
