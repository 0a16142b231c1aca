-- A call of a cue (CueOrder.antt) as a change of the settings at its own bits, and which calls are at different bits.
-- Assumes nothing.
use Rattle.std.specs.Prelude.{◌≡◌, refl, Bool, true, false, cond, List, [], eqb, get_or, set}
use Rattle.std.proofs.Common.{sym, ap, ◌∙◌, mod-eq_of_lt, arith}
use Rattle.std.proofs.Math.Path.{subst}
use Prim.Native.Nat.{ℕ, zero, suc, ◌+◌, ◌*◌, ◌/◌, ◌%◌, ◌^◌, ◌<◌, ◌≤◌}
use Rattle.std.proofs.Math.Decide.{dec_lt}
use Rattle.std.proofs.lemmas.Bool.{eqb-false, not-true}
use Rattle.std.proofs.Math.ListN.{get_or-eq_default}
use Rattle.map.specs.declared.dots.Field.{Field}
use Rattle.map.specs.declared.dots.Field as fields
use Rattle.map.specs.Refusals.{accepted}
use Rattle.map.specs.Map.{is_dot, number_in, dot_number, width_of, data_mode, is_wide}
use Rattle.map.specs.MapLaws.{lines_most, dot_line, dot_sink}
use Rattle.map.specs.PlaceLaws.{dot_number_lem, dot_again, place_above, place_below, area_of, places_apart}
use Rattle.map.specs.ByteLaws.{writable_below}
use Rattle.map.specs.Lists.{all_from}
use Rattle.map.specs.ListLaws.{all_at}
use Rattle.map.specs.ImageLaws.{Image, ok_fit}
use Rattle.dots.specs.Dots.{wide_of, put_level, put_field}
use Rattle.dots.specs.DotImages.{group_width, switch_width, group_narrow, switch_narrow, number_small}
use Rattle.dots.specs.ChangeLaws.{Bytes, Change, bits_from, no_change, behind, Makes, makes_none, makes_both, DifferentBits, different_swapped}
use Rattle.dots.specs.ChangeLaws.{at_below, at_above, Alike, alike_byte}
use Rattle.dots.specs.DotChanges.{place_change, level_field, byte_makes, field_makes, level_makes, apart_bits, bits_above}
use Rattle.host.specs.declared.Header.{Header}
use Rattle.host.specs.Record.{arguments_answer, put_setting, scene_count, scene_dot, scene_level, scene_has_dot, put_scene}
use Rattle.host.specs.RecordLaws.{register_taken, lamp_taken, FieldTaken, field_taken, SceneTaken, scene_taken}
use Rattle.host.proofs.SoundLaws.{scene_image}
use Rattle.host.proofs.SceneLaws.{scene_mode}
use Rattle.cues.specs.CueOrder.{Sort, lamp, group, switch, CueCall, dot, register, scene, setting_in, lent_with, keeps_mode, NoDotInCommon}

-- ---- a call of a cue as a change

-- the field that a call of a sort is put to, where levels have 16 bits or 8
unfoldable pub sort_field : Bool → Sort → Field
sort_field wide lamp = level_field wide
sort_field wide group = fields.TheVariants.Group
sort_field wide switch = fields.TheVariants.Switch

-- what the level of entry i of a scene changes, and what the first n entries do
abbrev pub entry_change : Bool → List ℕ → ℕ → Change
entry_change wide bytes i = place_change (level_field wide) (scene_dot bytes i / 18) (scene_dot bytes i % 18) (scene_level bytes i)

unfoldable pub scene_change : Bool → List ℕ → ℕ → Change
scene_change wide bytes zero = no_change
scene_change wide bytes (suc n) = behind (scene_change wide bytes n) (entry_change wide bytes n)

-- what a call changes, where levels have 16 bits or 8
unfoldable pub change_of : Bool → CueCall → Change
change_of wide (dot c l s v) = place_change (sort_field wide c) l s v
change_of wide (register a v) = bits_from (8 * a) 8 v
change_of wide (scene bytes) = scene_change wide bytes (scene_count bytes)

-- the settings that it leaves, where it is accepted
abbrev pub put : List ℕ → CueCall → List ℕ
put settings q = put_setting settings (setting_in q) (lent_with q)

-- an image has bytes, and 0 is read behind its end
pub image_bytes : (m : ℕ) (image : List ℕ) → Image m image → Bytes image
image_bytes m image i a = go (dec_lt a 908)
  where
    go : Dec (a < 908) → get_or image a 0 < 256
    go (yes h) = (i.fits a h).byte
    go (no n) = rw (get_or-eq_default image 0 {n = a} (omega (arith, i.size))) (omega arith)

module _ (h : Header) where
  abbrev m : ℕ
  m = h.member

  -- a scene's first n entries, one behind the other
  scene_makes : (settings bytes : List ℕ) → Image m settings → SceneTaken h settings bytes → (n : ℕ) → n ≤ scene_count bytes →
      Makes (scene_change (wide_of settings) bytes n) settings (put_scene bytes settings n)
  unfolding scene_change put_scene scene_has_dot
  scene_makes settings bytes i t zero u = makes_none settings (image_bytes m settings i)
  scene_makes settings bytes i t (suc n) u =
      makes_both (scene_change (wide_of settings) bytes n) (entry_change (wide_of settings) bytes n) settings before (put_level before d v)
      (scene_makes settings bytes i t n (omega arith))
      (subst (λ (x : ℕ). Makes (entry_change (wide_of settings) bytes n) before (put_level before x v)) (dot_again d)
      (subst (λ (b : Bool). Makes (entry_change b bytes n) before (put_level before (dot_number (d / 18) (d % 18)) v)) (scene_mode bytes settings n)
      (level_makes before (d / 18) (d % 18) v (image_bytes m before whole) whole.size
      (subst (λ (x : ℕ). x < 198) (sym (dot_again d)) (number_small m d (all_at (scene_has_dot m bytes) 0 (scene_count bytes) t.dots n (omega arith) (omega arith)))))))
    where
      d : ℕ
      d = scene_dot bytes n

      v : ℕ
      v = scene_level bytes n

      before : List ℕ
      before = put_scene bytes settings n

      whole : Image m before
      whole = scene_image m settings bytes (scene_count bytes) i t.dots n (omega arith)

  -- a Group or a Switch, whose largest value is top
  field_call : (f : Field) (settings : List ℕ) (l s v top : ℕ) → Image m settings → width_of f < 8 → 2 ^ width_of f ≡ suc top → FieldTaken h l s v top →
      Makes (place_change f l s v) settings (put_field f settings l s v)
  field_call f settings l s v top i narrow w t =
      field_makes f settings l s v (image_bytes m settings i)
      (omega (arith, i.size, place_below f l s (omega (arith, dot_line m l s t.dot, lines_most m)) (dot_sink m l s t.dot))) narrow (omega (arith, t.fits))

  -- an accepted call makes its change
  pub call_makes : (settings : List ℕ) → Image m settings → (q : CueCall) → accepted (arguments_answer h settings (setting_in q) (lent_with q)) ≡ true →
      Makes (change_of (wide_of settings) q) settings (put settings q)
  unfolding change_of sort_field arguments_answer put_setting
  call_makes settings i (dot lamp l s v) e =
      level_makes settings l s v (image_bytes m settings i) i.size (dot_number_lem m l s (lamp_taken h settings l s v e).dot)
  call_makes settings i (dot group l s v) e = field_call fields.TheVariants.Group settings l s v 3 i group_narrow group_width (field_taken h l s v 3 e)
  call_makes settings i (dot switch l s v) e = field_call fields.TheVariants.Switch settings l s v 1 i switch_narrow switch_width (field_taken h l s v 1 e)
  call_makes settings i (register a v) e =
      let t = register_taken h a v e in
      subst (λ (x : ℕ). Makes (bits_from (8 * a) 8 v) settings (set settings a x)) (mod-eq_of_lt (ok_fit m a v t.fits).byte)
      (byte_makes settings a v (8 * a) (image_bytes m settings i) (omega (arith, i.size, writable_below m a t.writable)) (omega arith))
  call_makes settings i (scene bytes) e = scene_makes settings bytes i (scene_taken h settings bytes e) (scene_count bytes) (omega arith)

-- ---- calls that leave 001h

-- a scene has no bit that none of its entries has
scene_bits : (wide : Bool) (bytes : List ℕ) (n k : ℕ) → ((i : ℕ) → i < n → (entry_change wide bytes i).at k ≡ false) →
    (scene_change wide bytes n).at k ≡ false
unfolding scene_change
scene_bits wide bytes zero k f = refl
scene_bits wide bytes (suc n) k f = rw (scene_bits wide bytes n k (λ i h. f i (omega arith)), f n (omega arith)) refl

-- they have no bit of 001h
mode_bits : (wide : Bool) (q : CueCall) → keeps_mode q ≡ true → (i : ℕ) → i < 8 → (change_of wide q).at (8 * 0x001 + i) ≡ false
unfolding change_of keeps_mode
mode_bits wide (dot c l s v) e i h = bits_above (sort_field wide c) l s v 0x001 i (omega (arith, place_above (sort_field wide c) l s)) h
mode_bits wide (register a v) e i h = other (dec_lt a 0x001) (eqb-false a 0x001 (not-true (eqb a 0x001) e))
  where
    other : Dec (a < 0x001) → (a ≡ 0x001 → ⊥) → (bits_from (8 * a) 8 v).at (8 * 0x001 + i) ≡ false
    other (yes l) n = at_above (8 * a) 8 v (8 * 0x001 + i) (omega arith)
    other (no l) n = at_below (8 * a) 8 v (8 * 0x001 + i) (omega arith)
mode_bits wide (scene bytes) e i h = scene_bits wide bytes (scene_count bytes) (8 * 0x001 + i) (λ j l. above (scene_dot bytes j) (scene_level bytes j))
  where
    above : (d v : ℕ) → (place_change (level_field wide) (d / 18) (d % 18) v).at (8 * 0x001 + i) ≡ false
    above d v = bits_above (level_field wide) (d / 18) (d % 18) v 0x001 i (omega (arith, place_above (level_field wide) (d / 18) (d % 18))) h

-- so that settings which differ by such a call alone have levels of one width
pub alike_width : (wide : Bool) (q : CueCall) → keeps_mode q ≡ true → (x y : List ℕ) → Alike (change_of wide q) x y → wide_of x ≡ wide_of y
unfolding wide_of
alike_width wide q e x y a = ap (λ (v : ℕ). is_wide (data_mode v)) (alike_byte (change_of wide q) x y a 0x001 (mode_bits wide q e))

-- ---- which calls are at different bits

-- a sort is known by the area of its field
unfoldable sort_of : ℕ → Sort
sort_of n = cond (eqb n 0) group (cond (eqb n 1) switch lamp)

sort_area : (wide : Bool) (c : Sort) → sort_of (area_of (sort_field wide c)) ≡ c
unfolding sort_of sort_field area_of level_field
sort_area true lamp = refl
sort_area false lamp = refl
sort_area wide group = refl
sort_area wide switch = refl

-- an accepted call on a dot is on one that is there
pub dot_taken : (h : Header) (settings : List ℕ) (c : Sort) (l s v : ℕ) →
    accepted (arguments_answer h settings (setting_in (dot c l s v)) []) ≡ true → is_dot h.member l s ≡ true
unfolding arguments_answer
dot_taken h settings lamp l s v e = (lamp_taken h settings l s v e).dot
dot_taken h settings group l s v e = (field_taken h l s v 3 e).dot
dot_taken h settings switch l s v e = (field_taken h l s v 1 e).dot

-- calls on two dots of a member, or of two sorts
pub dots_apart : (wide : Bool) (m : ℕ) (c d : Sort) (l s v k t w : ℕ) → (c ≡ d → l ≡ k → s ≡ t → ⊥) → is_dot m l s ≡ true → is_dot m k t ≡ true →
    DifferentBits (change_of wide (dot c l s v)) (change_of wide (dot d k t w))
unfolding change_of
dots_apart wide m c d l s v k t w n i j =
    apart_bits (sort_field wide c) (sort_field wide d) l s k t v w
    (places_apart (sort_field wide c) (sort_field wide d) l s k t (omega (arith, dot_line m l s i, lines_most m)) (dot_sink m l s i)
    (omega (arith, dot_line m k t j, lines_most m)) (dot_sink m k t j) (λ e. ap (sort_field wide) (same e)) (λ e. n (same (ap area_of e))))
  where
    same : area_of (sort_field wide c) ≡ area_of (sort_field wide d) → c ≡ d
    same e = sym (sort_area wide c) ∙ ap sort_of e ∙ sort_area wide d

-- a change at other bits than each entry of a scene is at other bits than the scene
scene_apart : (c : Change) (wide : Bool) (bytes : List ℕ) (n : ℕ) → ((i : ℕ) → i < n → DifferentBits c (entry_change wide bytes i)) →
    DifferentBits c (scene_change wide bytes n)
scene_apart c wide bytes n f k e = scene_bits wide bytes n k (λ i h. f i h k e)

-- a scene and a call on a dot, unless that is a Lamp on a dot of the scene
pub scene_dot_apart : (wide : Bool) (m : ℕ) (c : Sort) (l s v : ℕ) (bytes : List ℕ) → is_dot m l s ≡ true →
    all_from (scene_has_dot m bytes) 0 (scene_count bytes) ≡ true →
    (c ≡ lamp → (i : ℕ) → i < scene_count bytes → scene_dot bytes i ≡ dot_number l s → ⊥) →
    DifferentBits (change_of wide (dot c l s v)) (change_of wide (scene bytes))
unfolding change_of sort_field scene_has_dot number_in is_dot
scene_dot_apart wide m c l s v bytes there dots n =
    scene_apart (place_change (sort_field wide c) l s v) wide bytes (scene_count bytes)
    (λ i h. dots_apart wide m c lamp l s v (scene_dot bytes i / 18) (scene_dot bytes i % 18) (scene_level bytes i)
    (λ e el es. n e i h (number (scene_dot bytes i) el es))
    there (all_at (scene_has_dot m bytes) 0 (scene_count bytes) dots i (omega arith) (omega arith)))
  where
    number : (d : ℕ) → l ≡ d / 18 → s ≡ d % 18 → d ≡ dot_number l s
    number d el es = omega arith

-- two scenes with no dot in common
pub scenes_apart : (wide : Bool) (m : ℕ) (one other : List ℕ) → all_from (scene_has_dot m one) 0 (scene_count one) ≡ true →
    all_from (scene_has_dot m other) 0 (scene_count other) ≡ true → NoDotInCommon one other → DifferentBits (change_of wide (scene one)) (change_of wide (scene other))
unfolding change_of sort_field scene_has_dot number_in is_dot
scenes_apart wide m one other dots others n =
    different_swapped (change_of wide (scene other)) (change_of wide (scene one))
    (scene_apart (change_of wide (scene other)) wide one (scene_count one)
    (λ i h. different_swapped (entry_change wide one i) (change_of wide (scene other))
    (scene_dot_apart wide m lamp (scene_dot one i / 18) (scene_dot one i % 18) (scene_level one i) other
    (all_at (scene_has_dot m one) 0 (scene_count one) dots i (omega arith) (omega arith)) others
    (λ e j u q. n i j h u (sym (q ∙ dot_again (scene_dot one i)))))))
