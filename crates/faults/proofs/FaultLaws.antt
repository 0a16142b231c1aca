-- What Faults answers and stores, and what the readings rest on.
-- Assumes nothing.
use Rattle.std.specs.Prelude.{◌≡◌, ◌⊎◌, Ok, Err, Bool, ◌&&◌, ◌||◌, List, [], ◌∷◌, ℕ, zero, suc, ◌+◌, ◌*◌, ◌/◌, ◌%◌, ◌<◌, ◌≤◌, ltb, eqb}
use Rattle.std.proofs.Math.Path.{refl}
use Rattle.std.proofs.Common.{sym, ap, ◌∙◌, not-suc-le-zero, zero-add}
use Rattle.std.proofs.Math.Logic.{inl, inr}
use Rattle.std.proofs.Math.Bool.{true, false, cond}
use Rattle.std.proofs.lemmas.Bool.{false≢true}
use Rattle.std.proofs.Math.Decide.{ℕ_discrete, dec_lt}
use Rattle.std.proofs.Math.Nat.{zero-div}
use native.Mathlib.Omega.{arith}
use borrow.Author.Tests.{lt-ltb, le-ltb, eq-eqb, ne_eqb, ltb-false, eqb-true}
use Rattle.std.proofs.Math.ListN.{length, get_or}
use Rattle.map.specs.declared.dots.Field.{Field}
use Rattle.map.specs.declared.dots.Field.TheVariants.{Open, Short}
use Rattle.map.specs.Refusals as refusals
use Rattle.map.specs.declared.refusals.Refusal.TheVariants.{BufferShort}
use Rattle.map.specs.Refusals.{accepted}
use Rattle.map.specs.Map.{lines_of, columns_of, is_dot, dot_number, address_of, shift_of}
use Rattle.map.specs.MapLaws.{dot_sink, lines_most, number_past}
use Rattle.map.specs.PlaceLaws.{number_dot}
use Rattle.map.specs.Lists.{filled}
use Rattle.map.specs.ListLaws.{filled_length, filled_in, filled_out}
use Rattle.host.specs.declared.Record.{Record}
use Rattle.host.specs.Record.{sound_of, when_sound}
use Rattle.host.specs.RecordLaws.{passed}
use Rattle.faults.specs.Faults.{fault_byte, bit_set, is_set, is_dim, has_dot, lamp_reading, reading, readings, some_below, is_faulty, some_faulty, opens_agree, shorts_agree, faults_checked, answer_numbers, answered, faults_answer, faults_result}

-- ---- the answers, by document 01's numbers

module _ (r : Record) (bytes result : List ℕ) where
  pub unsound_refused : sound_of r ≡ false → answer_numbers (faults_answer r bytes result) ≡ 14 ∷ []
  unfolding faults_answer faults_checked when_sound answered answer_numbers
  unsound_refused u = rw u refl

  pub length_refused : sound_of r ≡ true → (length bytes ≡ 67 → ⊥) → answer_numbers (faults_answer r bytes result) ≡ 13 ∷ []
  unfolding faults_answer faults_checked when_sound answered answer_numbers
  length_refused u n = rw (u, ne_eqb (length bytes) 67 n) refl

  pub room_refused : sound_of r ≡ true → length bytes ≡ 67 → length result < 198 → answer_numbers (faults_answer r bytes result) ≡ 10 ∷ []
  unfolding faults_answer faults_checked when_sound answered answer_numbers
  room_refused u e h = rw (u, eq-eqb (length bytes) 67 e, lt-ltb (length result) 198 h) refl

  pub read_accepted : sound_of r ≡ true → length bytes ≡ 67 → 198 ≤ length result →
      answer_numbers (faults_answer r bytes result)
      ≡ 0 ∷ cond (opens_agree r.header.member bytes) 1 0 ∷ cond (shorts_agree r.header.member bytes) 1 0 ∷ []
  unfolding faults_answer faults_checked when_sound answered answer_numbers
  read_accepted u e h = rw (u, eq-eqb (length bytes) 67 e, le-ltb (length result) 198 h) refl

-- nothing else is accepted
pub record Taken (r : Record) (given room : ℕ) : Type 0 where
  pub sound : sound_of r ≡ true
  pub bytes : given ≡ 67
  pub result : 198 ≤ room

pub faults_taken : (r : Record) (given room : ℕ) → accepted (faults_checked r given room) ≡ true → Taken r given room
unfolding faults_checked when_sound
faults_taken r given room e =
    let sound = passed (sound_of r) _ _ e in
    let sized = passed (eqb given 67) _ _ sound.1 in
    record { sound = sound.0; bytes = eqb-true given 67 sized.0; result = ltb-false room 198 (roomy (ltb room 198) sized.1) }
  where
    roomy : (b : Bool) → accepted (cond {A = refusals.Answer} b (Err BufferShort) (Ok tt)) ≡ true → b ≡ false
    roomy true q = absurd (false≢true q)
    roomy false q = refl

-- ---- the buffer

pub filled_same : (f g : ℕ → ℕ) (n : ℕ) (xs : List ℕ) → ((k : ℕ) → k < n → f k ≡ g k) → filled f 0 n xs ≡ filled g 0 n xs
unfolding filled
filled_same f g zero xs h = refl
filled_same f g (suc n) xs h = rw (filled_same f g n xs (λ k u. h k (omega arith)), h (0 + n) (omega (arith, zero-add n))) refl

module _ (r : Record) (bytes result : List ℕ) where
  -- a refusal leaves every byte of the buffer
  pub refused_keeps : accepted (faults_checked r (length bytes) (length result)) ≡ false → faults_result r bytes result ≡ result
  unfolding faults_result
  refused_keeps e = rw e refl

  pub result_length : length (faults_result r bytes result) ≡ length result
  unfolding faults_result readings
  result_length = go (accepted (faults_checked r (length bytes) (length result)))
    where
      go : (b : Bool) → length (cond b (filled (reading r.header.member r.image bytes) 0 198 result) result) ≡ length result
      go true = filled_length (reading r.header.member r.image bytes) 0 198 result
      go false = refl

  pub result_at : (d : ℕ) → accepted (faults_checked r (length bytes) (length result)) ≡ true → d < 198 →
      get_or (faults_result r bytes result) d 0 ≡ reading r.header.member r.image bytes d
  unfolding faults_result readings
  result_at d e h =
      rw e
      (filled_in (reading r.header.member r.image bytes) 0 198 result d (omega arith) (omega arith)
      (omega (arith, (faults_taken r (length bytes) (length result) e).result)))

  -- the bytes behind the readings stay
  pub result_behind : (k : ℕ) → 198 ≤ k → get_or (faults_result r bytes result) k 0 ≡ get_or result k 0
  unfolding faults_result readings
  result_behind k h = go (accepted (faults_checked r (length bytes) (length result)))
    where
      go : (b : Bool) → get_or (cond b (filled (reading r.header.member r.image bytes) 0 198 result) result) k 0 ≡ get_or result k 0
      go true = filled_out (reading r.header.member r.image bytes) 0 198 result k (λ l u. omega arith)
      go false = refl

-- a call that is not answered 0 leaves every byte, and answers no more than its number
module _ (r : Record) (bytes result : List ℕ) where
  pub record Refuses : Type 0 where
    pub result_stays : faults_result r bytes result ≡ result
    pub no_opens : (old : ℕ) → get_or (answer_numbers (faults_answer r bytes result)) 1 old ≡ old
    pub no_shorts : (old : ℕ) → get_or (answer_numbers (faults_answer r bytes result)) 2 old ≡ old

  pub refuses : (get_or (answer_numbers (faults_answer r bytes result)) 0 0 ≡ 0 → ⊥) → Refuses
  unfolding faults_answer faults_result answered answer_numbers
  refuses = go (faults_checked r (length bytes) (length result)) refl
    where
      go : (a : refusals.Answer) → faults_checked r (length bytes) (length result) ≡ a →
          (get_or (answer_numbers (answered a (opens_agree r.header.member bytes) (shorts_agree r.header.member bytes))) 0 0 ≡ 0 → ⊥) → Refuses
      go (Ok u) e z = absurd (z refl)
      go (Err x) e z = record { result_stays = rw e refl; no_opens = λ old. rw e refl; no_shorts = λ old. rw e refl }

-- ---- the reading of a dot

module _ (m : ℕ) (image : List ℕ) where
  -- of a line and a sink
  pub reading_dot : (bytes : List ℕ) (l s : ℕ) → is_dot m l s ≡ true →
      reading m image bytes (dot_number l s)
      ≡ lamp_reading (bit_set (fault_byte bytes (address_of Open l s)) (shift_of Open s)) (bit_set (fault_byte bytes (address_of Short l s)) (shift_of Short s)) (is_dim image (dot_number l s))
  unfolding reading has_dot is_set
  reading_dot bytes l s e = rw (number_dot m l s e, line l s (dot_sink m l s e), sink l s (dot_sink m l s e)) refl
    where
      line : (l s : ℕ) → s < 18 → (18 * l + s) / 18 ≡ l
      line l s h = omega arith

      sink : (l s : ℕ) → s < 18 → (18 * l + s) % 18 ≡ s
      sink l s h = omega arith

  -- of the fault bytes it depends only on its own two bits
  pub reading_own : (bytes other : List ℕ) (d : ℕ) → is_set Open bytes d ≡ is_set Open other d → is_set Short bytes d ≡ is_set Short other d →
      reading m image bytes d ≡ reading m image other d
  unfolding reading
  reading_own bytes other d eo es = rw (eo, es) refl

  pub absent_reads : (bytes : List ℕ) (d : ℕ) → has_dot m d ≡ false → reading m image bytes d ≡ 4
  unfolding reading
  absent_reads bytes d e = rw e refl

  -- what an existing dot reads
  module _ (bytes : List ℕ) (d : ℕ) (e : has_dot m d ≡ true) where
    existing : (o s : Bool) → is_set Open bytes d ≡ o → is_set Short bytes d ≡ s → reading m image bytes d ≡ lamp_reading o s (is_dim image d)
    unfolding reading
    existing o s eo es = rw (e, eo, es) refl

    pub clear_reads : is_set Open bytes d ≡ false → is_set Short bytes d ≡ false → reading m image bytes d ≡ cond (is_dim image d) 5 0
    unfolding lamp_reading
    clear_reads eo es = existing false false eo es

    pub open_reads : is_set Open bytes d ≡ true → (reading m image bytes d ≡ 1) ⊎ (reading m image bytes d ≡ 3)
    unfolding lamp_reading
    open_reads eo = go (is_set Short bytes d) refl
      where
        go : (s : Bool) → is_set Short bytes d ≡ s → (reading m image bytes d ≡ 1) ⊎ (reading m image bytes d ≡ 3)
        go false es = inl (existing true false eo es)
        go true es = inr (existing true true eo es)

    pub short_reads : is_set Short bytes d ≡ true → (reading m image bytes d ≡ 2) ⊎ (reading m image bytes d ≡ 3)
    unfolding lamp_reading
    short_reads es = go (is_set Open bytes d) refl
      where
        go : (o : Bool) → is_set Open bytes d ≡ o → (reading m image bytes d ≡ 2) ⊎ (reading m image bytes d ≡ 3)
        go false eo = inl (existing false true eo es)
        go true eo = inr (existing true true eo es)

  -- a reading is one of the six
  pub reading_range : (bytes : List ℕ) (d : ℕ) → reading m image bytes d ≤ 5
  unfolding reading lamp_reading
  reading_range bytes d = go (has_dot m d) (is_set Open bytes d) (is_set Short bytes d) (is_dim image d)
    where
      go : (b o s dim : Bool) → cond b (lamp_reading o s dim) 4 ≤ 5
      go true false false true = omega arith
      go true false false false = omega arith
      go true true false dim = omega arith
      go true false true dim = omega arith
      go true true true dim = omega arith
      go false o s dim = omega arith

  -- a lamp with clear bits: it exists, its level is below the figure or it is not, and both its bits are clear
  pub record ClearLamp (bytes : List ℕ) (d : ℕ) (dim : Bool) : Type 0 where
    pub exists : has_dot m d ≡ true
    pub opened : is_set Open bytes d ≡ false
    pub shorted : is_set Short bytes d ≡ false
    pub level : is_dim image d ≡ dim

  module _ (bytes : List ℕ) (d : ℕ) where
    clear_lamp : (dim : Bool) → reading m image bytes d ≡ cond dim 5 0 → ClearLamp bytes d dim
    unfolding reading lamp_reading
    clear_lamp dim e = go (has_dot m d) (is_set Open bytes d) (is_set Short bytes d) (is_dim image d) dim refl refl refl refl e
      where
        go : (b o s x y : Bool) → has_dot m d ≡ b → is_set Open bytes d ≡ o → is_set Short bytes d ≡ s → is_dim image d ≡ x →
            cond b (lamp_reading o s x) 4 ≡ cond y 5 0 → ClearLamp bytes d y
        go true false false true true eb eo es ex q = record { exists = eb; opened = eo; shorted = es; level = ex }
        go true false false false false eb eo es ex q = record { exists = eb; opened = eo; shorted = es; level = ex }
        go true false false true false eb eo es ex q = absurd (omega arith)
        go true false false false true eb eo es ex q = absurd (omega arith)
        go true true false x true eb eo es ex q = absurd (omega arith)
        go true true false x false eb eo es ex q = absurd (omega arith)
        go true false true x true eb eo es ex q = absurd (omega arith)
        go true false true x false eb eo es ex q = absurd (omega arith)
        go true true true x true eb eo es ex q = absurd (omega arith)
        go true true true x false eb eo es ex q = absurd (omega arith)
        go false o s x true eb eo es ex q = absurd (omega arith)
        go false o s x false eb eo es ex q = absurd (omega arith)

    -- a lamp reads sound only where it exists, both its bits are clear and the chip has looked
    pub sound_is_tested : reading m image bytes d ≡ 0 → ClearLamp bytes d false
    sound_is_tested e = clear_lamp false e

    -- and untested only where it exists, both its bits are clear and it is dim
    pub untested_is_dim : reading m image bytes d ≡ 5 → ClearLamp bytes d true
    untested_is_dim e = clear_lamp true e

-- ---- clear bytes

pub has_dot_below : (m d : ℕ) → has_dot m d ≡ true → d < 198
unfolding has_dot
has_dot_below m d e = go (dec_lt d 198)
  where
    go : Dec (d < 198) → d < 198
    go (yes h) = h
    go (no n) = absurd (false≢true (sym (number_past (lines_of m) (columns_of m) d (omega (arith, lines_most m))) ∙ e))

clear_bit : (k : ℕ) → bit_set 0 k ≡ false
unfolding bit_set
clear_bit k = rw zero-div refl

-- every open byte and every short byte is 00h
abbrev pub Clear : List ℕ → Type 0
Clear bytes = (a : ℕ) → 0x065 ≤ a → a ≤ 0x0A6 → fault_byte bytes a ≡ 0

module _ (bytes : List ℕ) (clear : Clear bytes) where
  pub clear_open : (d : ℕ) → d < 198 → is_set Open bytes d ≡ false
  unfolding is_set address_of
  clear_open d h = rw (clear (0x065 + 3 * (d / 18) + d % 18 / 8) (omega arith) (omega arith)) (clear_bit (shift_of Open (d % 18)))

  pub clear_short : (d : ℕ) → d < 198 → is_set Short bytes d ≡ false
  unfolding is_set address_of
  clear_short d h = rw (clear (0x086 + 3 * (d / 18) + d % 18 / 8) (omega arith) (omega arith)) (clear_bit (shift_of Short (d % 18)))

  pub all_clear : (m : ℕ) (image : List ℕ) (d : ℕ) → has_dot m d ≡ true → reading m image bytes d ≡ cond (is_dim image d) 5 0
  all_clear m image d e =
      clear_reads m image bytes d e (clear_open d (has_dot_below m d e)) (clear_short d (has_dot_below m d e))

-- ---- the summary

pub some_at : (f : ℕ → Bool) (n k : ℕ) → k < n → f k ≡ true → some_below f n ≡ true
unfolding some_below
some_at f zero k h e = absurd (not-suc-le-zero h)
some_at f (suc n) k h e = go (f n) refl (some_at f n k) (ℕ_discrete k n)
  where
    go : (b : Bool) → f n ≡ b → (k < n → f k ≡ true → some_below f n ≡ true) → Dec (k ≡ n) → (b || some_below f n) ≡ true
    go true eb r d = refl
    go false eb r (no ne) = r (omega arith) e
    go false eb r (yes q) = absurd (let z : ◌≡◌ {A = Bool} false true = sym eb ∙ ap f (sym q) ∙ e in false≢true z)

pub some_same : (f g : ℕ → Bool) (n : ℕ) → ((k : ℕ) → k < n → f k ≡ g k) → some_below f n ≡ some_below g n
unfolding some_below
some_same f g zero h = refl
some_same f g (suc n) h = simp (h n (omega arith), some_same f g n (λ k l. h k (omega arith)))

pub some_none : (f : ℕ → Bool) (n : ℕ) → ((k : ℕ) → k < n → f k ≡ false) → some_below f n ≡ false
unfolding some_below
some_none f zero h = refl
some_none f (suc n) h = simp (h n (omega arith), some_none f n (λ k l. h k (omega arith)))

-- a set bit of an existing dot is seen, and with no such bit there is nothing to see
pub faulty_seen : (f : Field) (m : ℕ) (bytes : List ℕ) (d : ℕ) → has_dot m d ≡ true → is_set f bytes d ≡ true → some_faulty f m bytes ≡ true
unfolding some_faulty is_faulty
faulty_seen f m bytes d e s = some_at (is_faulty f m bytes) 198 d (has_dot_below m d e) (rw (e, s) refl)

pub none_faulty : (f : Field) (m : ℕ) (bytes : List ℕ) → ((d : ℕ) → has_dot m d ≡ true → is_set f bytes d ≡ false) → some_faulty f m bytes ≡ false
unfolding some_faulty is_faulty
none_faulty f m bytes h = some_none (is_faulty f m bytes) 198 (λ d l. go d (has_dot m d) refl)
  where
    go : (d : ℕ) (b : Bool) → has_dot m d ≡ b → (b && is_set f bytes d) ≡ false
    go d true e = h d e
    go d false e = refl

-- ---- bits of absent dots count for nothing

-- two inputs have the same 064h and the same bits of the member's dots
pub record SameLamps (m : ℕ) (bytes other : List ℕ) : Type 0 where
  pub state : fault_byte bytes 0x064 ≡ fault_byte other 0x064
  pub opened : (d : ℕ) → has_dot m d ≡ true → is_set Open bytes d ≡ is_set Open other d
  pub shorted : (d : ℕ) → has_dot m d ≡ true → is_set Short bytes d ≡ is_set Short other d

module _ (m : ℕ) (bytes other : List ℕ) where
  faulty_same : (f : Field) → ((d : ℕ) → has_dot m d ≡ true → is_set f bytes d ≡ is_set f other d) → some_faulty f m bytes ≡ some_faulty f m other
  unfolding some_faulty is_faulty
  faulty_same f h = some_same (is_faulty f m bytes) (is_faulty f m other) 198 (λ d l. go d (has_dot m d) refl)
    where
      go : (d : ℕ) (b : Bool) → has_dot m d ≡ b → (b && is_set f bytes d) ≡ (b && is_set f other d)
      go d true e = h d e
      go d false e = refl

  pub same_opens_agree : SameLamps m bytes other → opens_agree m bytes ≡ opens_agree m other
  unfolding opens_agree
  same_opens_agree s = rw (s.state, faulty_same Open s.opened) refl

  pub same_shorts_agree : SameLamps m bytes other → shorts_agree m bytes ≡ shorts_agree m other
  unfolding shorts_agree
  same_shorts_agree s = rw (s.state, faulty_same Short s.shorted) refl

  pub same_reading : (image : List ℕ) → SameLamps m bytes other → (d : ℕ) → reading m image bytes d ≡ reading m image other d
  same_reading image s d = go (has_dot m d) refl
    where
      go : (b : Bool) → has_dot m d ≡ b → reading m image bytes d ≡ reading m image other d
      go true e = reading_own m image bytes other d (s.opened d e) (s.shorted d e)
      go false e = absent_reads m image bytes d e ∙ sym (absent_reads m image other d e)

-- the whole answer, and the whole buffer
module _ (r : Record) (bytes other result : List ℕ) (e : length bytes ≡ length other) (s : SameLamps r.header.member bytes other) where
  pub same_answer : faults_answer r bytes result ≡ faults_answer r other result
  unfolding faults_answer
  same_answer = rw (e, same_opens_agree r.header.member bytes other s, same_shorts_agree r.header.member bytes other s) refl

  pub same_result : faults_result r bytes result ≡ faults_result r other result
  unfolding faults_result readings
  same_result = rw (e, filled_same _ _ 198 result (λ d u. same_reading r.header.member bytes other r.image s d)) refl
