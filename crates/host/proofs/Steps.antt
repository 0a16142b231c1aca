-- The steps of the calls, over plain variables.
-- Assumes nothing.
use mathlib.Core.Path.{◌≡◌, refl, sym, ap, ◌∙◌}
use mathlib.Core.Bool.{Bool, true, false, cond, ◌&&◌, false≢true}
use mathlib.Core.List.{List, [], ◌∷◌}
use Prim.Native.Nat.{ℕ, zero, suc, ◌+◌, ◌*◌, ◌/◌, ◌%◌, ◌^◌, ◌<◌, ◌≤◌}
use native.Mathlib.Nat.{mod-eq_of_lt, zero-add}
use native.Mathlib.Numerals.{add-one}
use native.Mathlib.Omega.{arith}
use borrow.Author.Tests.{le-leb, lt-leb, le-ltb, lt-ltb, eq-eqb, ne_eqb, leb-true, eqb-true}
use lib.Dec.{ltb, leb, eqb}
use lib.Bits.{bit_and}
use lib.ListN.{length, get_or, set, take, drop, length-set}
use Rattle.std.proofs.lemmas.List.{get_or-take, get_or-drop}
use Rattle.map.specs.declared.kinds.Kind.{Kind}
use Rattle.map.specs.declared.dots.Field.{Field}
use Rattle.map.specs.declared.dots.Field as fields
use Rattle.map.specs.Refusals.{Answer}
use Rattle.std.specs.Prelude.{Ok, Err}
use Rattle.map.specs.declared.refusals.Numbers.{Numbers}
use Rattle.map.specs.declared.refusals.Refusal.{Refusal}
use Rattle.map.specs.declared.refusals.Refusal.TheVariants.{NotWritable, ReservedBit, Level, Unsound, Locked}
use Rattle.map.specs.Refusals.{answer_number, numbers_of, accepted, open_answer, opens}
use Rattle.map.specs.RefusalLaws.{opens_member, opens_bus, opens_pins}
use Rattle.map.specs.Map.{lines_of, columns_of, number_in, kind_of, reserved_as, reserved_of, writable_of, reset_as, reset_of, is_dot, dot_number, width_of}
use Rattle.map.specs.MapLaws.{lines_most, dot_line, dot_sink}
use Rattle.map.specs.Lists.{all_from}
use Rattle.map.specs.ListLaws.{and_left, and_right, all_more, all_fails}
use Rattle.map.specs.Images.{ok_byte, image_ok, reset_image}
use Rattle.map.specs.ImageLaws.{ok_masked, ok_fit}
use Rattle.dots.specs.Dots.{wide_of, top_level, put_level, put_field}
use Rattle.dots.specs.DotLaws.{level_mode}
use Rattle.dots.specs.DotImages.{group_width, switch_width}
use Rattle.calls.specs.declared.Setting.{Setting}
use Rattle.calls.specs.declared.Setting.TheVariants.{Register, Lamp, Group, Switch, Scene}
use Rattle.host.specs.declared.Header.{Header}
use Rattle.host.specs.declared.Record.{Record}
use Rattle.host.specs.declared.Changed.{Changed}
use Rattle.host.specs.RecordLaws.{passed, setting_taken, register_taken, lamp_taken, field_taken, scene_taken}
use Rattle.host.specs.Record.{record_of, sound_of, free, locked, marked_as, lock_keeps, marks_ok, opened, open_host, open_of, sound_answer, when_sound, chip_reset, power_lost_of, lock_answer, lock_of, register_answer, when_dot, lamp_answer}
use Rattle.host.specs.Record.{scene_word, scene_count, scene_dot, scene_level, scene_has_dot, scene_fits, scene_sized, put_scene}
use Rattle.host.specs.Record.{arguments_answer, setting_answer, setting_numbers, put_setting}

-- ---- soundness

and_no : (a b : Bool) → b ≡ false → (a && b) ≡ false
and_no true b e = e
and_no false b e = refl

module _ (h : Header) (settings image : List ℕ) where
  pub not_opened : (x : Refusal) (answer : Answer) → answer ≡ open_answer h.member h.bus h.pins → answer ≡ Err x →
      sound_of (record_of h settings image) ≡ false
  unfolding sound_of opens
  not_opened x answer e n = rw (sym e ∙ n) refl

  pub settings_fail : image_ok h.member settings ≡ false → sound_of (record_of h settings image) ≡ false
  unfolding sound_of
  settings_fail e = and_no (opens h.member h.bus h.pins) _ (rw e refl)

  pub image_fails : image_ok h.member image ≡ false → sound_of (record_of h settings image) ≡ false
  unfolding sound_of
  image_fails e = and_no (opens h.member h.bus h.pins) _ (and_no (image_ok h.member settings) _ (rw e refl))

  pub marks_decide : (r : Bool) → opens h.member h.bus h.pins ≡ true → image_ok h.member settings ≡ true → image_ok h.member image ≡ true →
      r ≡ marks_ok (record_of h settings image) → sound_of (record_of h settings image) ≡ r
  unfolding sound_of
  marks_decide r o s i e = rw (o, s, i) (sym e)

pub is_accepted : (m b p : ℕ) (answer : Answer) → answer ≡ open_answer m b p → answer ≡ (Ok tt) → opens m b p ≡ true
unfolding opens
is_accepted m b p answer e n = rw (sym e ∙ n) refl

-- ---- one byte

pub mask_is : (kind : Kind) (m n cs a mask : ℕ) → kind ≡ kind_of a → n ≡ lines_of m → cs ≡ columns_of m → mask ≡ reserved_as kind m n cs a →
    mask ≡ reserved_of m a
unfolding reserved_of
mask_is kind m n cs a mask ek en ec e = e ∙ rw (ek, en, ec) refl

pub reset_is : (kind : Kind) (m a reset : ℕ) → kind ≡ kind_of a → reset ≡ reset_as kind m a → reset ≡ reset_of m a
unfolding reset_of
reset_is kind m a reset ek e = e ∙ rw ek refl

-- the answers to a byte, in the order of the refusals
module _ (h : Header) (a v mask : ℕ) (em : mask ≡ reserved_of h.member a) where
  pub not_writable : 255 ≤ mask → Err NotWritable ≡ register_answer h a v
  unfolding register_answer writable_of
  not_writable l = rw (sym em, le-ltb mask 255 l) refl

  pub is_locked_out : mask < 255 → lock_keeps h a ≡ true → Err Locked ≡ register_answer h a v
  unfolding register_answer writable_of
  is_locked_out l k = rw (sym em, lt-ltb mask 255 l, k) refl

  module _ (l : mask < 255) (k : lock_keeps h a ≡ false) where
    pub value_wide : 255 < v → Err ReservedBit ≡ register_answer h a v
    unfolding register_answer writable_of ok_byte
    value_wide w = rw (sym em, lt-ltb mask 255 l, k, le-ltb v 256 (omega arith)) refl

    module _ (reset : ℕ) (hv : v < 256) (er : reset ≡ reset_of h.member a) where
      pub bit_differs : (bit_and v mask ≡ bit_and reset mask → ⊥) → Err ReservedBit ≡ register_answer h a v
      unfolding register_answer writable_of
      bit_differs n = rw (ok_masked h.member a v mask reset hv (sym em) (sym er), sym em, lt-ltb mask 255 l, k, ne_eqb _ _ n) refl

      pub bits_kept : bit_and v mask ≡ bit_and reset mask → (Ok tt) ≡ register_answer h a v
      unfolding register_answer writable_of
      bits_kept e = rw (ok_masked h.member a v mask reset hv (sym em) (sym er), sym em, lt-ltb mask 255 l, k, eq-eqb _ _ e) refl

-- ---- a setting

-- a Lamp's value is at most the largest level of the settings
pub lamp_is : (h : Header) (settings : List ℕ) (l s v top : ℕ) (r : Answer) → top ≡ top_level settings →
    r ≡ when_dot h l s (cond (leb v top) (Ok tt) (Err Level)) → r ≡ lamp_answer h settings l s v
unfolding lamp_answer
lamp_is h settings l s v top r t e = e ∙ rw t refl

-- 14 comes first, and then the arguments decide
module _ (r : Record) (q : Setting) (lent : List ℕ) (answer : Answer) (e : answer ≡ sound_answer r) where
  pub unsound_answers : (x : Refusal) → answer ≡ Err x → answer ≡ setting_answer r q lent
  unfolding sound_answer setting_answer when_sound
  unsound_answers x n = go (sound_of r) e
    where
      go : (b : Bool) → answer ≡ cond b (Ok tt) (Err Unsound) →
          answer ≡ cond b (arguments_answer r.header r.settings q lent) (Err Unsound)
      go true a = absurd (false≢true (sym (ap accepted n) ∙ ap accepted a))
      go false a = a

  pub arguments_decide : (new : Answer) → answer ≡ (Ok tt) → new ≡ arguments_answer r.header r.settings q lent → new ≡ setting_answer r q lent
  unfolding sound_answer setting_answer when_sound
  arguments_decide new a n = n ∙ rw (passed (sound_of r) (Ok tt) Unsound (sym (ap accepted e) ∙ ap accepted a)).0 refl

-- ---- an answer that was taken apart

pub taken : (answer : Answer) → answer ≡ (Ok tt) → accepted answer ≡ true
taken answer e = ap accepted e

pub host_accepted : (answer : Answer) (m b p : ℕ) → answer ≡ (Ok tt) → open_host answer m b p ≡ opened m b p
unfolding open_host
host_accepted answer m b p e = rw (taken answer e) refl

pub host_refused : (answer : Answer) (m b p : ℕ) (x : Refusal) → answer ≡ Err x → open_host answer m b p ≡ opened 0 0 0
unfolding open_host
host_refused answer m b p x e = rw (ap accepted e) refl

pub open_inside : (m b p : ℕ) (x : Answer) → x ≡ open_answer m b p → accepted x ≡ true → (m < 5) × (b < 2) × (p < 4)
unfolding opens
open_inside m b p x e t =
    let o : opens m b p ≡ true = sym (ap accepted e) ∙ t in (opens_member m b p o, opens_bus m b p o, opens_pins m b p o)

pub open_is : (m b p : ℕ) (x : Answer) (n : Numbers) (r : Record) → x ≡ open_answer m b p → n ≡ numbers_of (answer_number x ∷ []) →
    r ≡ open_host x m b p → ◌≡◌ {A = Changed} (record { answer = x; numbers = n; host = r }) (open_of m b p)
unfolding open_of
open_is m b p x n r e en q = rw (q, en, e) refl

pub lost_is : (r : Record) (x : Answer) (n : Numbers) (h : Header) (image : List ℕ) → x ≡ sound_answer r → n ≡ numbers_of (answer_number x ∷ []) →
    h ≡ cond (accepted x) (marked_as r.header free) r.header → image ≡ cond (accepted x) (reset_image r.header.member) r.image →
    ◌≡◌ {A = Changed} (record { answer = x; numbers = n; host = record_of h r.settings image }) (power_lost_of r)
unfolding power_lost_of
lost_is r x n h image e en eh q = rw (eh, q, en, e) (ap (λ (y : Record). record { answer = sound_answer r; numbers = numbers_of (answer_number (sound_answer r) ∷ []); host = y }) (go (accepted (sound_answer r))))
  where
    go : (b : Bool) → record_of (cond b (marked_as r.header free) r.header) r.settings (cond b (reset_image r.header.member) r.image) ≡ cond b (chip_reset r) r
    go true = refl
    go false = refl

pub lock_is : (r : Record) (x : Answer) (n : Numbers) (h : Header) → x ≡ lock_answer r → n ≡ numbers_of (answer_number x ∷ []) →
    h ≡ cond (accepted x) (marked_as r.header locked) r.header →
    ◌≡◌ {A = Changed} (record { answer = x; numbers = n; host = record_of h r.settings r.image }) (lock_of r)
unfolding lock_of
lock_is r x n h e en eh = rw (eh, en, e) (ap (λ (y : Record). record { answer = lock_answer r; numbers = numbers_of (answer_number (lock_answer r) ∷ []); host = y }) (go (accepted (lock_answer r))))
  where
    go : (b : Bool) → record_of (cond b (marked_as r.header locked) r.header) r.settings r.image ≡ cond b (record_of (marked_as r.header locked) r.settings r.image) r
    go true = refl
    go false = refl

-- ---- what an accepted setting puts

small_value : (v top : ℕ) → v ≤ top → top < 256 → v % 256 ≡ v
small_value v top h t = mod-eq_of_lt (omega arith)

module _ (h : Header) (settings image lent : List ℕ) (answer : Answer) where
  -- the answer is that of a record with these settings
  abbrev Answers : Setting → Type 0
  Answers q = answer ≡ setting_answer (record_of h settings image) q lent

  accepted_arguments : (q : Setting) → Answers q → answer ≡ (Ok tt) → accepted (arguments_answer h settings q lent) ≡ true
  accepted_arguments q e a = (setting_taken (record_of h settings image) q lent (sym (ap accepted e) ∙ taken answer a)).1

  -- `new` is what `put_setting` promises
  abbrev Puts : Setting → List ℕ → Type 0
  Puts q new = new ≡ cond (accepted answer) (put_setting settings q lent) settings

  -- the number of the answer, and no values
  pub numbered : (q : Setting) (n : Numbers) → n ≡ numbers_of (answer_number answer ∷ []) → Answers q →
      n ≡ numbers_of (setting_numbers (record_of h settings image) q lent)
  unfolding setting_numbers
  numbered q n en e = en ∙ rw e refl

  puts : (q : Setting) (new : List ℕ) → answer ≡ (Ok tt) → new ≡ put_setting settings q lent → Puts q new
  puts q new a e = e ∙ rw (taken answer a) refl

  pub refused_puts : (q : Setting) (x : Refusal) → answer ≡ Err x → Puts q settings
  refused_puts q x e = rw (ap accepted e) refl

  pub register_puts : (a v : ℕ) (new : List ℕ) → answer ≡ (Ok tt) → new ≡ set settings a (v % 256) → Answers (Register a v) → Puts (Register a v) new
  unfolding arguments_answer put_setting
  register_puts a v new x e q =
      puts (Register a v) new x
      (e ∙ ap (set settings a) (mod-eq_of_lt (ok_fit h.member a v (register_taken h a v (accepted_arguments (Register a v) q x)).fits).byte))

  pub lamp_puts : (l s v : ℕ) (new : List ℕ) → answer ≡ (Ok tt) →
      new ≡ cond (ltb l 11 && ltb s 18) (put_level settings (dot_number l s) v) settings → Answers (Lamp l s v) → Puts (Lamp l s v) new
  unfolding arguments_answer put_setting
  lamp_puts l s v new x e q =
      let d : is_dot h.member l s ≡ true = (lamp_taken h settings l s v (accepted_arguments (Lamp l s v) q x)).dot in
      puts (Lamp l s v) new x
      (e ∙ rw (lt-ltb l 11 (omega (arith, dot_line h.member l s d, lines_most h.member)), lt-ltb s 18 (dot_sink h.member l s d)) refl)

  -- a field whose largest value is top: no bit of the value is lost
  field_puts : (f : Field) (l s v top : ℕ) → 2 ^ width_of f ≡ suc top → top < 256 → is_dot h.member l s ≡ true → v ≤ top →
      cond (is_dot h.member l s) (put_field f settings l s (v % 256 % 2 ^ width_of f)) settings ≡ put_field f settings l s v
  field_puts f l s v top w t d b =
      rw (d, small_value v top b t) (ap (put_field f settings l s) (mod-eq_of_lt (omega arith)))

  pub group_puts : (l s g : ℕ) (new : List ℕ) → answer ≡ (Ok tt) →
      new ≡ cond (is_dot h.member l s) (put_field fields.TheVariants.Group settings l s (g % 256 % 2 ^ width_of fields.TheVariants.Group)) settings →
      Answers (Group l s g) → Puts (Group l s g) new
  unfolding arguments_answer put_setting
  group_puts l s g new x e q =
      let t = field_taken h l s g 3 (accepted_arguments (Group l s g) q x) in
      puts (Group l s g) new x (e ∙ field_puts fields.TheVariants.Group l s g 3 group_width (omega arith) t.dot t.fits)

  pub switch_puts : (l s g : ℕ) (new : List ℕ) → answer ≡ (Ok tt) →
      new ≡ cond (is_dot h.member l s) (put_field fields.TheVariants.Switch settings l s (g % 256 % 2 ^ width_of fields.TheVariants.Switch)) settings →
      Answers (Switch l s g) → Puts (Switch l s g) new
  unfolding arguments_answer put_setting
  switch_puts l s g new x e q =
      let t = field_taken h l s g 1 (accepted_arguments (Switch l s g) q x) in
      puts (Switch l s g) new x (e ∙ field_puts fields.TheVariants.Switch l s g 1 switch_width (omega arith) t.dot t.fits)

  pub scene_puts : (new : List ℕ) → answer ≡ (Ok tt) → new ≡ cond (scene_sized lent) (put_scene lent settings (scene_count lent)) settings →
      Answers Scene → Puts Scene new
  unfolding arguments_answer put_setting
  scene_puts new x e q = puts Scene new x (e ∙ rw (scene_taken h settings lent (accepted_arguments Scene q x)).sized refl)

-- ---- scenes

pub next_holds : (f : ℕ → Bool) (i : ℕ) → f i ≡ true → all_from f 0 i ≡ true → all_from f 0 (i + 1) ≡ true
next_holds f i e = all_more f 0 i (ap f (zero-add i) ∙ e)

pub one_fails : (f : ℕ → Bool) (n i : ℕ) → i < n → f i ≡ false → all_from f 0 n ≡ false
one_fails f n i h e = all_fails f 0 n i h (ap f (zero-add i) ∙ e)

pub scene_dot_lem : (m : ℕ) (bytes : List ℕ) (n k i : ℕ) {lines columns : ℕ} (r : Bool) → i < n → lines ≡ lines_of m → columns ≡ columns_of m →
    r ≡ number_in lines columns (get_or (take k (drop 2 bytes)) i 0) → k ≡ n → scene_has_dot m bytes i ≡ r
unfolding scene_has_dot scene_dot
scene_dot_lem m bytes n k i r h en ec er ek =
    rw (sym en, sym ec) (sym (er ∙ ap (number_in _ _) (get_or-take k (drop 2 bytes) i 0 (omega arith) ∙ get_or-drop 2 bytes i 0)))

pub level_above : (top : ℕ) (bytes : List ℕ) (n i v : ℕ) → n ≡ scene_count bytes → v ≡ scene_word bytes (2 + n + 2 * i) → top < v →
    scene_fits top bytes i ≡ false
unfolding scene_fits scene_level
level_above top bytes n i v en ev h = rw (sym en, sym ev) (lt-leb v top h)

pub level_within : (top : ℕ) (bytes : List ℕ) (n i v : ℕ) → n ≡ scene_count bytes → v ≡ scene_word bytes (2 + n + 2 * i) → v ≤ top →
    scene_fits top bytes i ≡ true
unfolding scene_fits scene_level
level_within top bytes n i v en ev h = rw (sym en, sym ev) (le-leb v top h)

level_length : (image : List ℕ) (d v : ℕ) → length (put_level image d v) ≡ length image
unfolding put_level
level_length image d v = go (wide_of image)
  where
    go : (b : Bool) → length (cond b (set (set image (0x200 + 2 * d) (v % 256)) (0x200 + 2 * d + 1) (v / 256 % 256)) (set image (0x200 + d) (v % 256))) ≡ length image
    go true = simp length-set
    go false = simp length-set

pub scene_length : (bytes image : List ℕ) (k : ℕ) → length (put_scene bytes image k) ≡ length image
unfolding put_scene
scene_length bytes image zero = refl
scene_length bytes image (suc k) = level_length (put_scene bytes image k) (scene_dot bytes k) (scene_level bytes k) ∙ scene_length bytes image k

-- a scene changes no data mode
pub scene_mode : (bytes image : List ℕ) (k : ℕ) → wide_of (put_scene bytes image k) ≡ wide_of image
unfolding put_scene
scene_mode bytes image zero = refl
scene_mode bytes image (suc k) = level_mode (put_scene bytes image k) (scene_dot bytes k) (scene_level bytes k) ∙ scene_mode bytes image k

pub scene_none : (bytes image : List ℕ) → image ≡ put_scene bytes image 0
unfolding put_scene
scene_none bytes image = refl

pub scene_more : (bytes old image next : List ℕ) (n i v : ℕ) → n ≡ scene_count bytes → v ≡ scene_word bytes (2 + n + 2 * i) →
    image ≡ put_scene bytes old i → next ≡ put_level image (get_or bytes (2 + i) 0) v → next ≡ put_scene bytes old (i + 1)
unfolding put_scene scene_dot scene_level
scene_more bytes old image next n i v en ev ei e =
    e ∙ ap (λ (x : List ℕ). put_level x (get_or bytes (2 + i) 0) v) ei
    ∙ ap (put_level (put_scene bytes old i) (get_or bytes (2 + i) 0)) (ev ∙ ap (λ (x : ℕ). scene_word bytes (2 + x + 2 * i)) en)
    ∙ sym (rw add-one refl)

pub scene_short : (bytes : List ℕ) → length bytes < 2 → scene_sized bytes ≡ false
unfolding scene_sized
scene_short bytes h = rw (lt-leb 2 (length bytes) h) refl

pub size_decides : (bytes : List ℕ) (n : ℕ) → 2 ≤ length bytes → n ≡ scene_count bytes → eqb (length bytes) (2 + 3 * n) ≡ scene_sized bytes
unfolding scene_sized
size_decides bytes n h e = rw (le-leb 2 (length bytes) h, sym e) refl

-- what follows for a scene of the right length
module _ (bytes : List ℕ) (sized : scene_sized bytes ≡ true) where
  pub scene_long : 1 < length bytes
  unfolding scene_sized
  scene_long = leb-true 2 (length bytes) (and_left (leb 2 (length bytes)) (eqb (length bytes) (2 + 3 * scene_count bytes)) sized)

  module _ (n : ℕ) (e : n ≡ scene_count bytes) where
    pub scene_size : length bytes ≡ 2 + 3 * n
    unfolding scene_sized
    scene_size = rw e (eqb-true (length bytes) (2 + 3 * scene_count bytes) (and_right (leb 2 (length bytes)) _ sized))

    pub scene_has_dots : 2 + n ≤ length bytes
    scene_has_dots = omega (arith, scene_size)

-- a test over n entries, where n is the scene's count
pub counted : (f : ℕ → Bool) (bytes : List ℕ) (n : ℕ) (r : Bool) → n ≡ scene_count bytes → r ≡ all_from f 0 n → all_from f 0 (scene_count bytes) ≡ r
counted f bytes n r e q = ap (all_from f 0) (sym e) ∙ sym q

pub levels_counted : (settings bytes : List ℕ) (top n : ℕ) (r : Bool) → n ≡ scene_count bytes → top ≡ top_level settings →
    r ≡ all_from (scene_fits top bytes) 0 n → all_from (scene_fits (top_level settings) bytes) 0 (scene_count bytes) ≡ r
levels_counted settings bytes top n r e t q =
    ap (λ (x : ℕ). all_from (scene_fits x bytes) 0 (scene_count bytes)) (sym t) ∙ counted (scene_fits top bytes) bytes n r e q
