-- One lemma for each answer of a head's reader, for each end of the stores of a byte, and for each turn of the loops over data bytes and
-- over transactions.
-- Assumes nothing.
use mathlib.Core.Path.{◌≡◌, refl, sym, ap, ◌∙◌}
use mathlib.Core.Bool.{Bool, true, false, cond, not, ◌&&◌, and-false}
use mathlib.Core.List.{List, [], ◌∷◌}
use Prim.Native.Nat.{ℕ, suc, ◌+◌, ◌-◌, ◌*◌, ◌/◌, ◌<◌, ◌≤◌}
use native.Mathlib.Nat.{add-zero, sub-zero}
use native.Mathlib.Numerals.{add-one}
use native.Mathlib.Omega.{arith}
use borrow.Author.Tests.{eq-eqb, ne_eqb, lt-ltb, le-ltb, le-leb, lt-leb, not-true, not-false}
use lib.Dec.{eqb}
use borrow.Rule.Slice.PartMut.{put_mid}
use native.Mathlib.Decide.{dec_lt}
use Rattle.std.proofs.lemmas.List.{ext_get_or, get_or-replicate, get_or-append_right, length-replicate}
use Rattle.std.proofs.Common.{length-append, length-take-le}
use lib.ListN.{length, get_or, set, take, drop, replicate, length-drop, drop_of_length-le, get_or-append}
use lib.Seq.{drop-cons, take_all, get_or-take, get_or-drop}
use Rattle.std.specs.Prelude.{Option, Some, None, Ok, Err, is_ok, ok_or}
use Rattle.map.specs.declared.refusals.Refusal.{Refusal}
use Rattle.map.specs.declared.refusals.Refusal.TheVariants.{ListSizes, Unsound}
use Rattle.map.specs.Refusals.{Answer, accepted, open_answer, opens}
use Rattle.map.specs.RefusalLaws.{opens_member, opens_bus, opens_pins}
use Rattle.map.specs.Map.{reserved_of}
use Rattle.map.specs.Lists.{filled}
use Rattle.map.specs.ListLaws.{and_right, filled_length, filled_in, filled_out}
use Rattle.map.specs.Images.{registers_ok, reset_image}
use Rattle.map.specs.ImageLaws.{registers_ok_lem}
use Rattle.burst.specs.declared.sizes.Sizes.{Sizes}
use Rattle.burst.specs.Burst.{size16, lengths_from, lengths, cut_from, transactions, sizes_of, head_select, head_address, head_writes}
use Rattle.burst.specs.BurstLaws.{lengths_none, lengths_step, GoodSizes, sizes_good_lem, sizes_bad, Rest, rest_all, rest_first, rest_next, head_address_small}
use Rattle.chip.specs.declared.Chip.{Chip}
use Rattle.chip.specs.declared.Fed.{Fed}
use Rattle.chip.specs.declared.Opened.{Opened}
use Rattle.chip.specs.declared.decode.Transaction.{Transaction}
use Rattle.chip.specs.declared.decode.Transaction.TheVariants.{Write, PassesBy}
use Rattle.chip.specs.Chip.{chip_of, sound_of, power_lost_of, new_chip, at_reset_of, feed_answer, selected, decode_of, is_on, heard, merged, put_byte, is_command, faults_off, lod_clear, lsd_clear, heard_byte, hear_byte, hear_data, hear, by_transaction, apply, apply_all, feed_of}
use Rattle.chip.specs.HearLaws.{not_command}
use Rattle.chip.specs.ChipLaws.{data_none, data_reset, data_next}

-- ---- chips that are sound, at reset, without power

-- an accepted Open is one that is Ok
opens_is : (m b p : ℕ) → is_ok (open_answer m b p) ≡ opens m b p
unfolding opens
opens_is m b p = go (open_answer m b p)
  where
    go : (x : Answer) → is_ok x ≡ accepted x
    go (Ok u) = refl
    go (Err r) = refl

pub sound_opened : (m b p : ℕ) (rs : List ℕ) (x : Answer) (o r : Bool) → x ≡ open_answer m b p → o ≡ is_ok x → o ≡ true → r ≡ registers_ok m rs →
    r ≡ sound_of (chip_of m b p rs)
unfolding sound_of
sound_opened m b p rs x o r e f t q = rw (sym (opens_is m b p), sym (f ∙ ap is_ok e), t) q

pub not_opened : (m b p : ℕ) (rs : List ℕ) (x : Answer) (o : Bool) → x ≡ open_answer m b p → o ≡ is_ok x → o ≡ false →
    o ≡ sound_of (chip_of m b p rs)
unfolding sound_of
not_opened m b p rs x o e f n = rw (sym (opens_is m b p), sym (f ∙ ap is_ok e), n) refl

pub new_is : (m b p : ℕ) (rs : List ℕ) → rs ≡ reset_image m → chip_of m b p rs ≡ new_chip m b p
unfolding new_chip
new_is m b p rs e = rw e refl

pub open_inside : (m b p : ℕ) (x : Answer) → x ≡ open_answer m b p → accepted x ≡ true → (m < 5) × (b < 2) × (p < 4)
unfolding opens
open_inside m b p x e t =
    let o : opens m b p ≡ true = sym (ap accepted e) ∙ t in (opens_member m b p o, opens_bus m b p o, opens_pins m b p o)

pub at_reset_is : (m b p : ℕ) (x : Answer) (c : Chip) → x ≡ open_answer m b p → c ≡ cond (accepted x) (new_chip m b p) (new_chip 0 0 0) →
    ◌≡◌ {A = Opened} (record { answer = x; chip = c }) (at_reset_of m b p)
unfolding at_reset_of opens
at_reset_is m b p x c e q = rw (q, e) refl

-- a loss of power, on bytes that are lent
pub loses : (m : ℕ) (old new : List ℕ) → m < 5 → new ≡ cond (eqb (length old) 908) (reset_image m) old →
    new ≡ cond (eqb (length old) 908) (power_lost_of (chip_of m 0 0 old)).registers old
unfolding power_lost_of
loses m old new h q = q ∙ rw (lt-ltb m 5 h) refl

pub loses_nothing : (m : ℕ) (old : List ℕ) → 5 ≤ m → old ≡ cond (eqb (length old) 908) (power_lost_of (chip_of m 0 0 old)).registers old
unfolding power_lost_of
loses_nothing m old h = rw (le-ltb m 5 h) (either (eqb (length old) 908))
  where
    either : (b : Bool) → old ≡ cond b old old
    either true = refl
    either false = refl

pub lost_is : (c : Chip) (rs : List ℕ) → length c.registers ≡ 908 →
    rs ≡ cond (eqb (length c.registers) 908) (power_lost_of (chip_of c.member 0 0 c.registers)).registers c.registers →
    chip_of c.member c.bus c.pins rs ≡ power_lost_of c
unfolding power_lost_of
lost_is c rs h e = ap (chip_of c.member c.bus c.pins) (e ∙ rw (eq-eqb (length c.registers) 908 h) refl)

-- ---- heads

pub selects_spi : (bus pins h0 : ℕ) → (bus ≡ 0 → ⊥) → true ≡ selected bus pins h0
unfolding selected
selects_spi bus pins h0 n = rw (ne_eqb bus 0 n) refl

pub selects_every : (bus pins h0 : ℕ) → bus ≡ 0 → h0 / 8 ≡ 0x15 → true ≡ selected bus pins h0
unfolding selected head_select
selects_every bus pins h0 b e = rw (eq-eqb bus 0 b, eq-eqb (h0 / 8) 0x15 e) refl

pub selects_own : (bus pins h0 : ℕ) → bus ≡ 0 → (h0 / 8 ≡ 0x15 → ⊥) → eqb (h0 / 8) (0x10 + pins) ≡ selected bus pins h0
unfolding selected head_select
selects_own bus pins h0 b n = rw (eq-eqb bus 0 b, ne_eqb (h0 / 8) 0x15 n) refl

module _ (bus pins h0 h1 : ℕ) (writes own : Bool) where
  pub decodes_read : writes ≡ head_writes bus h0 h1 → not writes ≡ true → PassesBy ≡ decode_of bus pins h0 h1
  unfolding decode_of
  decodes_read e n = rw (sym e ∙ not-true writes n) refl

  pub decodes_other : writes ≡ head_writes bus h0 h1 → not writes ≡ false → own ≡ selected bus pins h0 → not own ≡ true →
      PassesBy ≡ decode_of bus pins h0 h1
  unfolding decode_of
  decodes_other e y f n = rw (sym e ∙ not-false writes y, sym f ∙ not-true own n) refl

  pub decodes_own : (a : ℕ) → writes ≡ head_writes bus h0 h1 → not writes ≡ false → own ≡ selected bus pins h0 → not own ≡ false →
      a ≡ head_address bus h0 h1 → Write a ≡ decode_of bus pins h0 h1
  unfolding decode_of
  decodes_own a e y f n q = rw (sym e ∙ not-false writes y, sym f ∙ not-false own n) (ap Write q)

-- ---- one data byte

-- a part of the registers that is filled with 0
module _ (from n : ℕ) (xs : List ℕ) (inside : from + n ≤ length xs) where
  abbrev part : List ℕ
  part = put_mid from n xs (replicate n 0)

  zeros_length : length part ≡ length xs
  zeros_length = simp (length-append, length-drop, length-take-le from xs (omega arith), length-replicate) (omega arith)

  zeros_at : (i : ℕ) → Dec (i < from) → Dec (i < from + n) → get_or part i 0 ≡ get_or (filled (λ a. 0) from n xs) i 0
  zeros_at i (yes l) e =
      get_or-append (take from xs) _ 0 i (omega (arith, front)) ∙ get_or-take from xs i 0 l ∙ sym (filled_out (λ a. 0) from n xs i (λ h u. omega arith))
    where
      front : length (take from xs) ≡ from
      front = length-take-le from xs (omega arith)
  zeros_at i (no l) (yes u) =
      get_or-append_right (take from xs) _ from i 0 (length-take-le from xs (omega arith)) (omega arith)
      ∙ get_or-append (replicate n 0) _ 0 (i - from) (rw length-replicate (omega arith))
      ∙ get_or-replicate n (i - from) 0 0 (omega arith)
      ∙ sym (filled_in (λ a. 0) from n xs i (omega arith) u (omega arith))
  zeros_at i (no l) (no u) =
      let place : from + (n + (i - from - n)) ≡ i = omega arith in
      get_or-append_right (take from xs) _ from i 0 (length-take-le from xs (omega arith)) (omega arith)
      ∙ get_or-append_right (replicate n 0) _ n (i - from) 0 (length-replicate n 0) (omega arith)
      ∙ get_or-drop n (drop from xs) (i - from - n) 0 ∙ get_or-drop from xs (n + (i - from - n)) 0
      ∙ ap (λ (k : ℕ). get_or xs k 0) place
      ∙ sym (filled_out (λ a. 0) from n xs i (λ h v. u v))

  zeros_filled : part ≡ filled (λ a. 0) from n xs
  zeros_filled =
      ext_get_or 0 _ _ (zeros_length ∙ sym (filled_length (λ a. 0) from n xs)) (λ i h. zeros_at i (dec_lt i from) (dec_lt i (from + n)))

  pub zeros_put : (k : ℕ) (new : List ℕ) → k ≡ n → new ≡ replicate (length (take k (drop from xs))) 0 → put_mid from k xs new ≡ filled (λ a. 0) from n xs
  zeros_put k new e q =
      let size : length (take n (drop from xs)) ≡ n = length-take-le n (drop from xs) (rw length-drop (omega arith)) in
      rw (q, e, size) zeros_filled

module _ (m a v : ℕ) (opens shorts : Bool) (old new : List ℕ) where
  pub puts_opens : opens ≡ is_command 0x0A7 0x0F a v → opens ≡ true → new ≡ faults_off 0x065 0xFD old → new ≡ heard_byte m a v old
  unfolding heard_byte lod_clear
  puts_opens e t q = q ∙ rw (sym e ∙ t) refl

  pub puts_shorts : opens ≡ is_command 0x0A7 0x0F a v → opens ≡ false → shorts ≡ is_command 0x0A8 0x0F a v → shorts ≡ true → new ≡ faults_off 0x086 0xFE old →
      new ≡ heard_byte m a v old
  unfolding heard_byte lsd_clear
  puts_shorts e f d t q = q ∙ rw (sym e ∙ f, sym d ∙ t) refl

  pub puts_byte : (mask byte : ℕ) → opens ≡ is_command 0x0A7 0x0F a v → opens ≡ false → shorts ≡ is_command 0x0A8 0x0F a v → shorts ≡ false →
      mask ≡ reserved_of m a → byte ≡ merged mask (get_or old a 0) v → set old a byte ≡ heard_byte m a v old
  unfolding heard_byte put_byte
  puts_byte mask byte e f d n k q = rw (sym e ∙ f, sym d ∙ n, q, k) refl

pub low_reset : (m a v : ℕ) (reset : Bool) (old new : List ℕ) → length old ≡ 908 → reset ≡ is_command 0x0A9 0xFF a v → reset ≡ true →
    new ≡ cond (eqb (length old) 908) (reset_image m) old → (false ≡ not (is_command 0x0A9 0xFF a v)) × (new ≡ reset_image m)
low_reset m a v reset old new h e t q = (rw (sym e ∙ t) refl, q ∙ rw (eq-eqb (length old) 908 h) refl)

module _ (m a v : ℕ) (on reset : Bool) (old : List ℕ) where
  pub low_unheard : (h : Bool) → reset ≡ is_command 0x0A9 0xFF a v → reset ≡ false → h ≡ heard on a → h ≡ false →
      (true ≡ not (is_command 0x0A9 0xFF a v)) × (old ≡ hear_byte m on a v old)
  unfolding hear_byte
  low_unheard h e f d n = (rw (sym e ∙ f) refl, rw (sym d ∙ n) refl)

  pub low_heard : (h : Bool) (new : List ℕ) → a < 0x100 → reset ≡ is_command 0x0A9 0xFF a v → reset ≡ false → h ≡ heard on a → h ≡ true →
      new ≡ heard_byte m a v old → (true ≡ not (is_command 0x0A9 0xFF a v)) × (new ≡ hear_byte m on a v old)
  unfolding hear_byte
  low_heard h new l e f d n q = (rw (sym e ∙ f) refl, q ∙ rw (sym d ∙ n, le-leb a 0x38B (omega arith)) refl)

-- ---- bytes from 100h on

no_reset : (a v : ℕ) → 0x100 ≤ a → is_command 0x0A9 0xFF a v ≡ false
no_reset a v h = not_command 0x0A9 0xFF a v (λ e. omega arith)

dot_byte : (m a v : ℕ) (rs : List ℕ) → 0x100 ≤ a → a ≤ 0x38B → hear_byte m true a v rs ≡ put_byte m a v rs
unfolding hear_byte heard_byte heard
dot_byte m a v rs l h =
    rw (le-leb a 0x38B h, not_command 0x0A7 0x0F a v (λ e. omega arith), not_command 0x0A8 0x0F a v (λ e. omega arith)) refl

-- those beyond 38Bh are dropped
past_byte : (m a v : ℕ) (on : Bool) (rs : List ℕ) → 0x38B < a → hear_byte m on a v rs ≡ rs
unfolding hear_byte
past_byte m a v on rs h = rw (lt-leb a 0x38B h, and-false (heard on a)) refl

-- and in standby none is heard
unheard_byte : (m a v : ℕ) (rs : List ℕ) → 0x100 ≤ a → hear_byte m false a v rs ≡ rs
unfolding hear_byte heard
unheard_byte m a v rs h = rw (ne_eqb a 0x000 (λ e. omega arith), ne_eqb a 0x0A9 (λ e. omega arith)) refl

pub data_past : (m a : ℕ) (on : Bool) (vs rs : List ℕ) → 0x38B < a → hear_data m on a vs rs ≡ rs
data_past m a on [] rs h = data_none m on a rs
data_past m a on (v ∷ vs) rs h =
    data_next m on a v vs rs (no_reset a v (omega arith))
    ∙ data_past m (suc a) on vs (hear_byte m on a v rs) (omega arith)
    ∙ past_byte m a v on rs h

pub data_unheard : (m a : ℕ) (vs rs : List ℕ) → 0x100 ≤ a → hear_data m false a vs rs ≡ rs
data_unheard m a [] rs h = data_none m false a rs
data_unheard m a (v ∷ vs) rs h =
    data_next m false a v vs rs (no_reset a v h) ∙ data_unheard m (suc a) vs (hear_byte m false a v rs) (omega arith) ∙ unheard_byte m a v rs h

-- ---- the loops over data bytes

-- i bytes are taken: what the others do to the registers that are there is what all do to the old ones
pub record Heard (m : ℕ) (on : Bool) (start : ℕ) (bytes old rs : List ℕ) (i : ℕ) : Type 0 where
  pub below : i ≤ length bytes
  pub same : hear_data m on (start + i) (drop i bytes) rs ≡ hear_data m on start bytes old

pub heard_none : (m : ℕ) (on : Bool) (start : ℕ) (bytes old : List ℕ) → Heard m on start bytes old old 0
heard_none m on start bytes old = record { below = omega arith; same = rw add-zero refl }

-- what lies behind i bytes, as a part of the slice
rest : (bytes : List ℕ) (i : ℕ) → take (length bytes - i) (drop i bytes) ≡ drop i bytes
rest bytes i = take_all (length bytes - i) (drop i bytes) (omega (arith, length-drop i bytes))

module _ (m : ℕ) (on : Bool) (start : ℕ) (bytes old rs : List ℕ) (i : ℕ) (h : Heard m on start bytes old rs i) where
  -- the byte at i and those behind it
  split : i < length bytes → drop i bytes ≡ get_or bytes i 0 ∷ drop (i + 1) bytes
  split l = drop-cons bytes i 0 l ∙ ap (λ (k : ℕ). get_or bytes i 0 ∷ drop k bytes) (sym (add-one i))

  -- a reset ends the write
  pub heard_reset : (r : Bool) (new : List ℕ) → i < length bytes → r ≡ not (is_command 0x0A9 0xFF (start + i) (get_or bytes i 0)) → not r ≡ true →
      new ≡ cond r (hear_byte m on (start + i) (get_or bytes i 0) rs) (reset_image m) → new ≡ hear_data m on start bytes old
  heard_reset r new l e n q =
      let stopped : is_command 0x0A9 0xFF (start + i) (get_or bytes i 0) ≡ true = not-false _ (sym e ∙ not-true r n) in
      q
      ∙ ap (λ (b : Bool). cond b (hear_byte m on (start + i) (get_or bytes i 0) rs) (reset_image m)) (not-true r n)
      ∙ sym (data_reset m on (start + i) (get_or bytes i 0) (drop (i + 1) bytes) rs stopped)
      ∙ ap (λ (vs : List ℕ). hear_data m on (start + i) vs rs) (sym (split l))
      ∙ h.same

  -- any other byte is one turn
  pub heard_turn : (new : List ℕ) → i < length bytes → is_command 0x0A9 0xFF (start + i) (get_or bytes i 0) ≡ false →
      new ≡ hear_byte m on (start + i) (get_or bytes i 0) rs → Heard m on start bytes old new (i + 1)
  heard_turn new l e q =
      let next : start + (i + 1) ≡ suc (start + i) = omega arith in
      record {
        below = omega arith;
        same =
            ap (λ (a : ℕ). hear_data m on a (drop (i + 1) bytes) new) next
            ∙ ap (hear_data m on (suc (start + i)) (drop (i + 1) bytes)) q
            ∙ sym (data_next m on (start + i) (get_or bytes i 0) (drop (i + 1) bytes) rs e)
            ∙ ap (λ (vs : List ℕ). hear_data m on (start + i) vs rs) (sym (split l))
            ∙ h.same;
      }

  pub heard_more : (r : Bool) (new : List ℕ) → i < length bytes → r ≡ not (is_command 0x0A9 0xFF (start + i) (get_or bytes i 0)) → not r ≡ false →
      new ≡ cond r (hear_byte m on (start + i) (get_or bytes i 0) rs) (reset_image m) → Heard m on start bytes old new (i + 1)
  heard_more r new l e n q =
      heard_turn new l (not-true _ (sym e ∙ not-false r n))
      (q ∙ ap (λ (b : Bool). cond b (hear_byte m on (start + i) (get_or bytes i 0) rs) (reset_image m)) (not-false r n))

  pub heard_all : length bytes ≤ i → rs ≡ hear_data m on start bytes old
  heard_all l =
      sym (data_none m on (start + i) rs)
      ∙ ap (λ (vs : List ℕ). hear_data m on (start + i) vs rs) (sym (drop_of_length-le bytes l))
      ∙ h.same

  pub heard_past : 0x38B < start + i → rs ≡ hear_data m on start bytes old
  heard_past l = sym (data_past m (start + i) on (drop i bytes) rs l) ∙ h.same

  pub heard_unheard : on ≡ false → 0x100 ≤ start + i → rs ≡ hear_data m on start bytes old
  heard_unheard e l =
      sym (data_unheard m (start + i) (drop i bytes) rs l)
      ∙ ap (λ (b : Bool). hear_data m b (start + i) (drop i bytes) rs) (sym e)
      ∙ h.same

  -- the others by the loop over bytes from 100h on
  pub heard_dots : (new : List ℕ) → on ≡ true → new ≡ hear_data m true (start + i) (take (length bytes - i) (drop i bytes)) rs →
      new ≡ hear_data m on start bytes old
  heard_dots new e q =
      q
      ∙ ap (λ (vs : List ℕ). hear_data m true (start + i) vs rs) (rest bytes i)
      ∙ ap (λ (b : Bool). hear_data m b (start + i) (drop i bytes) rs) (sym e)
      ∙ h.same

-- a turn of that loop
pub dots_more : (m start : ℕ) (bytes old rs : List ℕ) (i mask byte : ℕ) → i < length bytes → 0x100 ≤ start → start + i ≤ 0x38B → Heard m true start bytes old rs i →
    mask ≡ reserved_of m (start + i) → byte ≡ merged mask (get_or rs (start + i) 0) (get_or bytes i 0) →
    Heard m true start bytes old (set rs (start + i) byte) (i + 1)
unfolding put_byte
dots_more m start bytes old rs i mask byte l s u h k q =
    heard_turn m true start bytes old rs i h (set rs (start + i) byte) l (no_reset (start + i) (get_or bytes i 0) (omega arith))
    (rw (q, k) refl ∙ sym (dot_byte m (start + i) (get_or bytes i 0) rs (omega arith) u))

-- ---- one transaction

module _ (m bus pins : ℕ) (rs x : List ℕ) (t : Transaction) (d : t ≡ decode_of bus pins (get_or x 0 0) (get_or x 1 0)) where
  pub applies_write : (a : ℕ) (new : List ℕ) → t ≡ Write a → new ≡ hear_data m (is_on rs) a (take (length x - 2) (drop 2 x)) rs →
      new ≡ apply m bus pins rs x
  unfolding apply hear
  applies_write a new e h =
      h ∙ ap (λ (vs : List ℕ). hear_data m (is_on rs) a vs rs) (rest x 2) ∙ ap (λ (y : Transaction). by_transaction m rs y (drop 2 x)) (sym e ∙ d)

  pub applies_none : t ≡ PassesBy → rs ≡ apply m bus pins rs x
  unfolding apply
  applies_none e = ap (λ (y : Transaction). by_transaction m rs y (drop 2 x)) (sym e ∙ d)

-- a decoded address has ten bits
pub write_small : (bus pins h0 h1 : ℕ) (t : Transaction) (a : ℕ) → t ≡ decode_of bus pins h0 h1 → t ≡ Write a → a < 1024
unfolding decode_of
write_small bus pins h0 h1 t a d e = go (head_writes bus h0 h1 && selected bus pins h0) (sym e ∙ d)
  where
    go : (b : Bool) → Write a ≡ cond b (Write (head_address bus h0 h1)) PassesBy → a < 1024
    go true q = let same : a ≡ head_address bus h0 h1 = cc in omega (arith, head_address_small bus h0 h1)
    go false q = let z : ◌≡◌ {A = ℕ} 0 1 = cc in absurd (omega arith)

-- ---- the loop over transactions

-- i transactions are applied, and the next one is at `at`
pub record Applied (m bus pins : ℕ) (l : List ℕ) (n : ℕ) (old rs : List ℕ) (at i : ℕ) : Type 0 where
  pub below : i ≤ n
  pub left : Rest l at (lengths_from l (4 + 2 * i) (n - i))
  pub same : apply_all m bus pins rs (cut_from l at (lengths_from l (4 + 2 * i) (n - i))) ≡ apply_all m bus pins old (cut_from l (4 + 2 * n) (lengths_from l 4 n))

pub applied_none : (m bus pins : ℕ) (l : List ℕ) (n : ℕ) (old : List ℕ) → Rest l (4 + 2 * n) (lengths_from l 4 n) →
    Applied m bus pins l n old old (4 + 2 * n) 0
applied_none m bus pins l n old r = record { below = omega arith; left = rw sub-zero r; same = rw sub-zero refl }

module _ (m bus pins : ℕ) (l : List ℕ) (n : ℕ) (old rs : List ℕ) (at i : ℕ) (a : Applied m bus pins l n old rs at i) where
  next_rest : (k : ℕ) → i < n → k ≡ size16 l (4 + 2 * i) → Rest l at (k ∷ lengths_from l (4 + 2 * (i + 1)) (n - (i + 1)))
  next_rest k h e = rw (lengths_step l n i h, ← e) at a.left

  -- what a transaction has to meet
  pub applied_next : (k : ℕ) → i < n → k ≡ size16 l (4 + 2 * i) → (3 ≤ length (take (at + k - at) (drop at l))) × (at + k ≤ length l)
  applied_next k h e =
      let r = next_rest k h e in
      let size : length (take (at + k - at) (drop at l)) ≡ at + k - at = length-take-le (at + k - at) (drop at l) (rw length-drop (omega (arith, r.size))) in
      (omega (arith, size, rest_first l at k _ r), omega (arith, r.size))

  pub applied_more : (k : ℕ) (new : List ℕ) → i < n → k ≡ size16 l (4 + 2 * i) → new ≡ apply m bus pins rs (take (at + k - at) (drop at l)) →
      Applied m bus pins l n old new (at + k) (i + 1)
  unfolding apply_all cut_from
  applied_more k new h e q =
      let ks = lengths_from l (4 + 2 * (i + 1)) (n - (i + 1)) in
      let size : at + k - at ≡ k = omega arith in
      let next : k ∷ ks ≡ lengths_from l (4 + 2 * i) (n - i) = ap (λ (x : ℕ). x ∷ ks) e ∙ sym (lengths_step l n i h) in
      record {
        below = omega arith;
        left = rest_next l at k ks (next_rest k h e);
        same =
            ap (λ (x : List ℕ). apply_all m bus pins x (cut_from l (at + k) ks)) (q ∙ ap (λ (x : ℕ). apply m bus pins rs (take x (drop at l))) size)
            ∙ ap (λ (x : List ℕ). apply_all m bus pins rs (cut_from l at x)) next
            ∙ a.same;
      }

  pub applied_all : n ≤ i → rs ≡ apply_all m bus pins old (cut_from l (4 + 2 * n) (lengths_from l 4 n))
  unfolding apply_all cut_from
  applied_all h =
      let done : n - i ≡ 0 = omega arith in
      rw (done, lengths_none l (4 + 2 * i)) at a.same

-- ---- Feed

module _ (c : Chip) (l : List ℕ) where
  -- a refusal changes nothing
  refused_is : (x : Refusal) → Err x ≡ feed_answer c l → c.registers ≡ (feed_of c l).chip.registers
  unfolding feed_of
  refused_is x e = rw (sym e) refl

  -- what holds of the registers that Feed gives back, beside its answer
  abbrev Feeds : Answer → List ℕ → Type 0
  Feeds x new = (x ≡ feed_answer c l) × (new ≡ (feed_of c l).chip.registers)

  pub feeds_unsound : (sound : Bool) → sound ≡ sound_of c → not sound ≡ true → Feeds (Err Unsound) c.registers
  unfolding feed_answer
  feeds_unsound sound e n = let a : Err Unsound ≡ feed_answer c l = rw (sym e ∙ not-true sound n) refl in (a, refused_is Unsound a)

  module _ (sound : Bool) (e : sound ≡ sound_of c) (y : not sound ≡ false) (r : Option Sizes) (read : r ≡ sizes_of l) where
    -- the sizes as they were read, or the refusal where there are none
    pub feeds_bad : (x : Refusal) → Err x ≡ ok_or r ListSizes → Feeds (Err x) c.registers
    unfolding feed_answer
    feeds_bad x h =
        let a : Err x ≡ feed_answer c l = rw (sym e ∙ not-false sound y, sizes_bad l (sym read ∙ none r h), same r h) refl in
        (a, refused_is x a)
      where
        same : (o : Option Sizes) → Err x ≡ ok_or o ListSizes → x ≡ ListSizes
        same None q = cc
        same (Some s) q = cc

        none : (o : Option Sizes) → Err x ≡ ok_or o ListSizes → o ≡ None
        none None q = refl
        none (Some s) q = cc

    module _ (s : Sizes) (h : Ok s ≡ ok_or r ListSizes) where
      good : GoodSizes l s.n s.t
      good = sizes_good_lem l s.n s.t (sym read ∙ was r h)
        where
          was : (o : Option Sizes) → Ok s ≡ ok_or o ListSizes → o ≡ Some s
          was o q = grind arith

      pub good_rest : (s.n < 65536) × Rest l (4 + 2 * s.n) (lengths_from l 4 s.n)
      good_rest = (good.n_small, rest_all l s.n s.t good)

      -- every transaction was applied
      pub feeds_all : (new : List ℕ) → new ≡ apply_all c.member c.bus c.pins c.registers (cut_from l (4 + 2 * s.n) (lengths_from l 4 s.n)) → Feeds (Ok tt) new
      unfolding feed_of feed_answer transactions lengths
      feeds_all new r =
          let a : Ok tt ≡ feed_answer c l = rw (sym e ∙ not-false sound y, good.good) refl in
          (a, rw (sym a, good.n_is) r)

-- the registers of a sound chip are 908
pub sound_size : (c : Chip) (sound : Bool) → sound ≡ sound_of c → not sound ≡ false → length c.registers ≡ 908
unfolding sound_of
sound_size c sound e y =
    (registers_ok_lem c.member c.registers (and_right (opens c.member c.bus c.pins) _ (sym e ∙ not-false sound y))).size

pub fed_is : (c : Chip) (l : List ℕ) (x : Answer) (rs : List ℕ) → x ≡ feed_answer c l → rs ≡ (feed_of c l).chip.registers →
    ◌≡◌ {A = Fed} (record { answer = x; chip = chip_of c.member c.bus c.pins rs }) (feed_of c l)
unfolding feed_of
fed_is c l x rs e q = rw (q, e) refl
