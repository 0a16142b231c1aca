-- Laws of the lock: what it keeps of an image, and what the marks of a sound record say.
-- Assumes nothing.
use Rattle.std.specs.Prelude.{◌≡◌, refl, ◌⊎◌, Bool, true, false, not, ◌&&◌, ◌||◌, List, ℕ, zero, suc, ◌≤◌, ◌<◌, leb, eqb, get_or}
use Rattle.std.proofs.Common.{sym, ◌∙◌, subst, inl, inr, true≢false, arith, leb-true, le-leb, eqb-true, eq-eqb, get_or-set_other}
use Rattle.map.specs.declared.dots.Field.{Field}
use Rattle.std.specs.Prelude.{Ok}
use Rattle.map.specs.declared.refusals.Refusal.TheVariants.{Unsound, NotLockable}
use Rattle.map.specs.Refusals.{accepted}
use Rattle.map.specs.Map.{address_of}
use Rattle.map.specs.PlaceLaws.{place_above}
use Rattle.map.specs.ListLaws.{and_left, and_right}
use Rattle.dots.specs.Dots.{put_field}
use Rattle.dots.specs.DotLaws.{level_elsewhere}
use Rattle.host.specs.declared.Header.{Header}
use Rattle.host.specs.declared.Record.{Record}
use Rattle.host.specs.Record.{record_of, is_trim, is_locked, free, lock_keeps, same_trims, marks_ok, scene_dot, scene_level, put_scene, sound_of, when_sound, is_on, is_lockable, lock_answer}
use Rattle.host.specs.RecordLaws.{passed, keeps_trim}

-- ---- the marks of a sound record

-- the two images have the same bytes at these two
pub record SameTrims (settings image : List ℕ) : Type 0 where
  pub first : get_or settings 0x003 0 ≡ get_or image 0x003 0
  pub second : get_or settings 0x004 0 ≡ get_or image 0x004 0

pub trims_are : (settings image : List ℕ) → same_trims settings image ≡ true → SameTrims settings image
unfolding same_trims
trims_are settings image e =
    let one : Bool = eqb (get_or settings 0x003 0) (get_or image 0x003 0) in
    let two : Bool = eqb (get_or settings 0x004 0) (get_or image 0x004 0) in
    record { first = eqb-true _ _ (and_left one two e); second = eqb-true _ _ (and_right one two e) }

pub are_trims : (settings image : List ℕ) → SameTrims settings image → same_trims settings image ≡ true
unfolding same_trims
are_trims settings image t = rw (eq-eqb _ _ t.first, eq-eqb _ _ t.second) refl

-- what `marks_ok` tests: the marks are ones that there are, and a locked record has its settings in the chip image at these two
pub record Marks (h : Header) (settings image : List ℕ) : Type 0 where
  pub most : h.marks ≤ 1
  pub trims : is_locked h ≡ true → SameTrims settings image

pub marks_are : (h : Header) (settings image : List ℕ) → marks_ok (record_of h settings image) ≡ true → Marks h settings image
unfolding marks_ok
marks_are h settings image e =
    let few : Bool = leb h.marks 1 in
    let same : Bool = not (is_locked h) || same_trims settings image in
    record {
      most = leb-true h.marks 1 (and_left few same e);
      trims = λ l. trims_are settings image (behind (is_locked h) l (and_right few same e));
    }
  where
    behind : (b : Bool) → b ≡ true → (not b || same_trims settings image) ≡ true → same_trims settings image ≡ true
    behind true l t = t
    behind false l t = absurd (true≢false (sym l))

pub are_marks : (h : Header) (settings image : List ℕ) → Marks h settings image → marks_ok (record_of h settings image) ≡ true
unfolding marks_ok
are_marks h settings image k = rw (le-leb h.marks 1 k.most) (go (is_locked h) refl)
  where
    go : (b : Bool) → is_locked h ≡ b → (not b || same_trims settings image) ≡ true
    go true e = are_trims settings image (k.trims e)
    go false e = refl

-- so that a locked address has the same byte in both images
pub kept_same : (h : Header) (settings image : List ℕ) → Marks h settings image → (a : ℕ) → lock_keeps h a ≡ true → get_or settings a 0 ≡ get_or image a 0
unfolding lock_keeps
kept_same h settings image k a e = go (keeps_trim h a e)
  where
    same : SameTrims settings image
    same = k.trims (and_right (is_trim a) (is_locked h) e)

    go : (a ≡ 0x003) ⊎ (a ≡ 0x004) → get_or settings a 0 ≡ get_or image a 0
    go (inl q) = subst (λ (x : ℕ). get_or settings x 0 ≡ get_or image x 0) (sym q) same.first
    go (inr q) = subst (λ (x : ℕ). get_or settings x 0 ≡ get_or image x 0) (sym q) same.second

-- ---- what leaves the locked addresses as they are

-- they stand below 00Ch,
pub kept_low : (h : Header) (a : ℕ) → lock_keeps h a ≡ true → a < 0x00C
kept_low h a e = go (keeps_trim h a e)
  where
    go : (a ≡ 0x003) ⊎ (a ≡ 0x004) → a < 0x00C
    go (inl q) = omega arith
    go (inr q) = omega arith

-- a dot's bits at 00Ch or above,
pub field_above : (f : Field) (image : List ℕ) (l s v a : ℕ) → a < 0x00C → get_or (put_field f image l s v) a 0 ≡ get_or image a 0
unfolding put_field
field_above f image l s v a h = get_or-set_other image (address_of f l s) a _ 0 (λ e. omega (arith, e, place_above f l s))

-- and the levels of a scene at 200h or above
pub scene_above : (bytes image : List ℕ) (k a : ℕ) → a < 0x200 → get_or (put_scene bytes image k) a 0 ≡ get_or image a 0
unfolding put_scene
scene_above bytes image zero a h = refl
scene_above bytes image (suc k) a h =
    level_elsewhere (put_scene bytes image k) (scene_dot bytes k) (scene_level bytes k) a h ∙ scene_above bytes image k a h

-- where these stay the marks stay right,
pub marks_stay : (h : Header) (settings image : List ℕ) → Marks h settings image → (new : List ℕ) →
    ((a : ℕ) → lock_keeps h a ≡ true → get_or new a 0 ≡ get_or settings a 0) → Marks h new image
unfolding lock_keeps is_trim
marks_stay h settings image k new kept = record {
  most = k.most;
  trims = λ l. record { first = kept 0x003 l ∙ (k.trims l).first; second = kept 0x004 l ∙ (k.trims l).second };
}

-- as with a part of a scene
pub scene_marks : (h : Header) (settings image : List ℕ) → Marks h settings image → (bytes : List ℕ) (k : ℕ) → Marks h (put_scene bytes settings k) image
scene_marks h settings image m bytes k =
    marks_stay h settings image m (put_scene bytes settings k) (λ a l. scene_above bytes settings k a (omega (arith, kept_low h a l)))

-- ---- the marks that there are

-- a free record is not locked, and its images may differ everywhere
pub free_unlocked : (h : Header) → h.marks ≡ free → is_locked h ≡ false
unfolding is_locked
free_unlocked h e = rw e refl

pub free_marks : (h : Header) (settings image : List ℕ) → h.marks ≡ free → Marks h settings image
free_marks h settings image e = record {
  most = omega (arith, e);
  trims = λ l. absurd (true≢false (sym l ∙ free_unlocked h e));
}

-- ---- Lock

-- an accepted Lock meets none of the conditions of 14 and 18
pub record LockTaken (r : Record) : Type 0 where
  pub sound : sound_of r ≡ true
  pub free : is_locked r.header ≡ false
  pub on : is_on r.image ≡ true
  pub trims : SameTrims r.settings r.image

pub lock_taken : (r : Record) → accepted (lock_answer r) ≡ true → LockTaken r
unfolding lock_answer when_sound is_lockable
lock_taken r e =
    let s = passed (sound_of r) _ Unsound e in
    let able = (passed (not (is_locked r.header) && (is_on r.image && same_trims r.settings r.image)) (Ok tt) NotLockable s.1).0 in
    let rest = and_right (not (is_locked r.header)) (is_on r.image && same_trims r.settings r.image) able in
    record {
      sound = s.0;
      free = off (is_locked r.header) (and_left (not (is_locked r.header)) _ able);
      on = and_left (is_on r.image) _ rest;
      trims = trims_are r.settings r.image (and_right (is_on r.image) (same_trims r.settings r.image) rest);
    }
  where
    off : (b : Bool) → not b ≡ true → b ≡ false
    off true q = sym q
    off false q = refl
