-- A sound record as a property, and that every call keeps it.
-- Assumes nothing.
use Rattle.std.specs.Prelude.{◌≡◌, refl, Bool, true, false, cond, ◌&&◌, List, ℕ, zero, suc, ◌<◌, ◌≤◌, get_or}
use Rattle.std.proofs.Common.{sym, ◌∙◌, subst, true≢false, arith, get_or-set_other}
use Rattle.map.specs.declared.dots.Field as fields
use Rattle.map.specs.Refusals.{accepted, open_answer, opens}
use Rattle.map.specs.RefusalLaws.{opens_member}
use Rattle.map.specs.Map.{lines_of, columns_of, is_dot, number_in, dot_number}
use Rattle.map.specs.PlaceLaws.{dot_free, number_dot, dot_number_lem}
use Rattle.map.specs.Lists.{all_from}
use Rattle.map.specs.ListLaws.{and_left, and_right, all_at}
use Rattle.map.specs.Images.{image_ok, reset_image}
use Rattle.map.specs.ImageLaws.{ok_fit, Image, image_ok_lem, ok_image}
use Rattle.dots.specs.DotLaws.{level_elsewhere}
use Rattle.dots.specs.DotImages.{reset_image_lem, set_image, level_image, field_image, group_width, switch_width, group_narrow, switch_narrow, number_small}
use Rattle.calls.specs.declared.Setting.{Setting}
use Rattle.calls.specs.declared.Setting.TheVariants.{Register, Lamp, Group, Switch, Scene}
use Rattle.host.specs.declared.Header.{Header}
use Rattle.host.specs.declared.Record.{Record}
use Rattle.host.specs.Record.{header_of, record_of, free, locked, marked_as, lock_keeps, marks_ok, sound_of, opened, open_host, open_of, scene_count, scene_dot, scene_level, scene_has_dot, put_scene}
use Rattle.host.specs.Record.{arguments_answer, setting_answer, put_setting, changed_to, setting_of, sound_answer, chip_reset, power_lost_of, lock_answer, lock_of}
use Rattle.host.specs.RecordLaws.{setting_taken, register_taken, lamp_taken, field_taken, scene_taken}
use Rattle.host.specs.LockLaws.{Marks, marks_are, are_marks, kept_low, field_above, scene_above, marks_stay, free_marks, lock_taken}

-- ---- the property

-- what `sound_of` tests, at each address
pub record Sound (r : Record) : Type 0 where
  pub opened : opens r.header.member r.header.bus r.header.pins ≡ true
  pub settings : Image r.header.member r.settings
  pub image : Image r.header.member r.image
  pub marks : Marks r.header r.settings r.image

pub sound_is : (r : Record) → sound_of r ≡ true → Sound r
unfolding sound_of
sound_is r e =
    let m : ℕ = r.header.member in
    let i = and_right (opens m r.header.bus r.header.pins) (image_ok m r.settings && (image_ok m r.image && marks_ok r)) e in
    let k = and_right (image_ok m r.settings) (image_ok m r.image && marks_ok r) i in
    record {
      opened = and_left (opens m r.header.bus r.header.pins) _ e;
      settings = image_ok_lem m r.settings (and_left (image_ok m r.settings) _ i);
      image = image_ok_lem m r.image (and_left (image_ok m r.image) _ k);
      marks = marks_are r.header r.settings r.image (and_right (image_ok m r.image) (marks_ok r) k);
    }

pub is_sound : (r : Record) → Sound r → sound_of r ≡ true
unfolding sound_of
is_sound r s =
    rw (s.opened, ok_image r.header.member r.settings s.settings, ok_image r.header.member r.image s.image)
    (are_marks r.header r.settings r.image s.marks)

-- ---- Open

pub opened_sound : (m b p : ℕ) → opens m b p ≡ true → Sound (opened m b p)
unfolding opened
opened_sound m b p o = record {
  opened = o;
  settings = reset_image_lem m (opens_member m b p o);
  image = reset_image_lem m (opens_member m b p o);
  marks = free_marks (header_of m b p free) (reset_image m) (reset_image m) refl;
}

first_opens : opens 0 0 0 ≡ true
unfolding opens open_answer
first_opens = refl

pub open_sound : (m b p : ℕ) → Sound (open_of m b p).host
unfolding open_of open_host opens
open_sound m b p = go (accepted (open_answer m b p)) refl
  where
    go : (x : Bool) → accepted (open_answer m b p) ≡ x → Sound (cond x (opened m b p) (opened 0 0 0))
    go true e = opened_sound m b p e
    go false e = opened_sound 0 0 0 first_opens

-- ---- what a setting puts into an image leaves an image

below : {n k v : ℕ} → n ≡ suc k → v ≤ k → v < n
below e h = omega arith

pub scene_image : (m : ℕ) (image bytes : List ℕ) (n : ℕ) → Image m image → all_from (scene_has_dot m bytes) 0 n ≡ true → (k : ℕ) → k ≤ n →
    Image m (put_scene bytes image k)
unfolding put_scene scene_has_dot
scene_image m image bytes n i e zero h = i
scene_image m image bytes n i e (suc k) h =
    let d : number_in (lines_of m) (columns_of m) (scene_dot bytes k) ≡ true = all_at (scene_has_dot m bytes) 0 n e k (omega arith) (omega arith) in
    level_image m (put_scene bytes image k) (scene_dot bytes k) (scene_level bytes k) (scene_image m image bytes n i e k (omega arith)) d (number_small m (scene_dot bytes k) d)

pub setting_image : (h : Header) (settings : List ℕ) → Image h.member settings → (q : Setting) (lent : List ℕ) →
    accepted (arguments_answer h settings q lent) ≡ true → Image h.member (put_setting settings q lent)
unfolding arguments_answer put_setting
setting_image h settings i (Register a v) lent e = set_image h.member settings a v i (λ l. ok_fit h.member a v (register_taken h a v e).fits)
setting_image h settings i (Lamp l s v) lent e =
    let d : is_dot h.member l s ≡ true = (lamp_taken h settings l s v e).dot in
    level_image h.member settings (dot_number l s) v i (number_dot h.member l s d) (dot_number_lem h.member l s d)
setting_image h settings i (Group l s g) lent e =
    let t = field_taken h l s g 3 e in
    field_image fields.TheVariants.Group h.member settings l s g i group_narrow (below group_width t.fits) (dot_free h.member l s t.dot).group
setting_image h settings i (Switch l s x) lent e =
    let t = field_taken h l s x 1 e in
    field_image fields.TheVariants.Switch h.member settings l s x i switch_narrow (below switch_width t.fits) (dot_free h.member l s t.dot).switch
setting_image h settings i Scene lent e =
    scene_image h.member settings lent (scene_count lent) i (scene_taken h settings lent e).dots (scene_count lent) (omega arith)

-- ---- a setting leaves the locked addresses

-- "and the settings hold what the chip image held at locking": an accepted setting leaves the locked addresses as they are
pub setting_keeps : (h : Header) (settings : List ℕ) (q : Setting) (lent : List ℕ) → accepted (arguments_answer h settings q lent) ≡ true →
    (a : ℕ) → lock_keeps h a ≡ true → get_or (put_setting settings q lent) a 0 ≡ get_or settings a 0
unfolding arguments_answer put_setting
setting_keeps h settings q lent e a k = go q e
  where
    low : a < 0x00C
    low = kept_low h a k

    go : (x : Setting) → accepted (arguments_answer h settings x lent) ≡ true → get_or (put_setting settings x lent) a 0 ≡ get_or settings a 0
    go (Register b v) t = get_or-set_other settings b a v 0 (λ q. true≢false (sym k ∙ subst (λ (x : ℕ). lock_keeps h x ≡ false) (sym q) (register_taken h b v t).unlocked))
    go (Lamp l s v) t = level_elsewhere settings (dot_number l s) v a (omega (arith, low))
    go (Group l s g) t = field_above fields.TheVariants.Group settings l s g a low
    go (Switch l s x) t = field_above fields.TheVariants.Switch settings l s x a low
    go Scene t = scene_above lent settings (scene_count lent) a (omega (arith, low))

-- so that the marks stay right
pub setting_marks : (h : Header) (settings image : List ℕ) → Marks h settings image → (q : Setting) (lent : List ℕ) →
    accepted (arguments_answer h settings q lent) ≡ true → Marks h (put_setting settings q lent) image
setting_marks h settings image k q lent e = marks_stay h settings image k (put_setting settings q lent) (setting_keeps h settings q lent e)

-- ---- every call

-- a choice of images
pub chosen : (m : ℕ) (b : Bool) (new old : List ℕ) → (b ≡ true → Image m new) → Image m old → Image m (cond b new old)
chosen m true new old f i = f refl
chosen m false new old f i = i

pub setting_sound : (r : Record) (q : Setting) (lent : List ℕ) → Sound r → Sound (setting_of r q lent).host
unfolding setting_of changed_to
setting_sound r q lent s = record {
  opened = s.opened;
  settings = chosen r.header.member (accepted (setting_answer r q lent)) (put_setting r.settings q lent) r.settings
      (λ t. setting_image r.header r.settings s.settings q lent (setting_taken r q lent t).1) s.settings;
  image = s.image;
  marks = go (accepted (setting_answer r q lent)) refl;
}
  where
    go : (b : Bool) → accepted (setting_answer r q lent) ≡ b → Marks r.header (cond b (put_setting r.settings q lent) r.settings) r.image
    go true e = setting_marks r.header r.settings r.image s.marks q lent (setting_taken r q lent e).1
    go false e = s.marks

-- the record after an accepted Reset or Power lost
pub reset_sound : (r : Record) → Sound r → Sound (chip_reset r)
reset_sound r s = record {
  opened = s.opened;
  settings = s.settings;
  image = reset_image_lem r.header.member s.settings.member;
  marks = free_marks (marked_as r.header free) r.settings (reset_image r.header.member) refl;
}

-- a choice of records
pub chosen_sound : (b : Bool) (new old : Record) → (b ≡ true → Sound new) → Sound old → Sound (cond b new old)
chosen_sound true new old f s = f refl
chosen_sound false new old f s = s

pub power_sound : (r : Record) → Sound r → Sound (power_lost_of r).host
unfolding power_lost_of
power_sound r s = chosen_sound (accepted (sound_answer r)) (chip_reset r) r (λ t. reset_sound r s) s

pub lock_sound : (r : Record) → Sound r → Sound (lock_of r).host
unfolding lock_of
lock_sound r s = chosen_sound (accepted (lock_answer r)) (record_of (marked_as r.header locked) r.settings r.image) r lock s
  where
    lock : accepted (lock_answer r) ≡ true → Sound (record_of (marked_as r.header locked) r.settings r.image)
    lock e = record {
      opened = s.opened;
      settings = s.settings;
      image = s.image;
      marks = record { most = omega arith; trims = λ l. (lock_taken r e).trims };
    }
