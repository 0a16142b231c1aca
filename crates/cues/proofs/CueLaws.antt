-- Document 02, Q-6: the claims of CueOrder.antt, proved. Each call of a cue is a change of the settings at its own bits (CueChanges.antt), and what
-- it is answered goes by nothing of the settings but the width of their levels. So the laws about two changes of an image carry all of them:
-- `either_order` and `alike_meets` of dots' ChangeLaws.antt.
-- Assumes nothing.
use Rattle.std.specs.Prelude.{◌≡◌, refl, Bool, cond, List, [], ◌∷◌, ℕ}
use Rattle.std.proofs.Common.{sym, ap, subst, ◌∙◌}
use Rattle.std.proofs.Math.Bool.{true, false}
use Rattle.map.specs.Refusals.{accepted}
use Rattle.map.specs.Map.{is_dot}
use Rattle.dots.specs.Dots.{wide_of, top_level}
use Rattle.dots.specs.ChangeLaws.{Makes, DifferentBits, different_swapped, Covers, either_order, Alike, makes_alike, alike_stays, alike_meets}
use Rattle.host.specs.declared.Header.{Header}
use Rattle.host.specs.declared.Record.{Record}
use Rattle.host.specs.Record.{record_of, when_sound, lamp_answer, scene_answer, arguments_answer, setting_answer, changed_to, setting_of}
use Rattle.host.specs.RecordLaws.{setting_taken, SceneTaken, scene_taken}
use Rattle.host.proofs.SoundLaws.{Sound, sound_is, is_sound, setting_sound}
use Rattle.host.proofs.SettingLaws.{setting_sets}
use Rattle.cues.specs.CueOrder.{Sort, lamp, group, switch, CueCall, dot, register, scene, setting_in, lent_with, answer_to, Takes, after, after_all, keeps_mode}
use Rattle.cues.specs.CueOrder.{AnswersStay, EitherOrder, DotsInEitherOrder, ScenesInEitherOrder, SceneAndDotInEitherOrder, LaterStands, LaterLampStands, SceneTwice}
use Rattle.cues.proofs.CueChanges.{sort_field, change_of, put, image_bytes, call_makes, alike_width, dot_taken, dots_apart, scene_dot_apart, scenes_apart}

-- ---- what a call is answered

-- "mode 2 or 3 holds 16 bits": whether the levels of a record's settings have so many
abbrev wide_in : Record → Bool
wide_in r = wide_of r.settings

-- it goes by nothing of the settings but the width of their levels
answer_by_width : (h : Header) (x y : List ℕ) → wide_of x ≡ wide_of y → (q : CueCall) →
    arguments_answer h x (setting_in q) (lent_with q) ≡ arguments_answer h y (setting_in q) (lent_with q)
unfolding arguments_answer lamp_answer scene_answer top_level
answer_by_width h x y e (dot lamp l s v) = rw e refl
answer_by_width h x y e (dot group l s v) = refl
answer_by_width h x y e (dot switch l s v) = refl
answer_by_width h x y e (register a v) = refl
answer_by_width h x y e (scene bytes) = rw e refl

-- of a sound record it is that of the arguments
sound_answer_lem : (r : Record) → Sound r → (q : CueCall) → answer_to r q ≡ arguments_answer r.header r.settings (setting_in q) (lent_with q)
unfolding setting_answer when_sound
sound_answer_lem r s q = rw (is_sound r s) refl

-- ---- twins: a record in which a call was made, and one in which it was not

-- what an accepted call leaves
taken_after : (r : Record) (q : CueCall) → Takes r q → after r q ≡ record_of r.header (put r.settings q) r.image
taken_after r q t = (setting_sets r (setting_in q) (lent_with q)).accepts t

taken_makes : (r : Record) (q : CueCall) → Takes r q → Makes (change_of (wide_in r) q) r.settings (put r.settings q)
taken_makes r q t =
    let k = setting_taken r (setting_in q) (lent_with q) t in
    call_makes r.header r.settings (sound_is r k.0).settings q k.1

module _ (wide : Bool) (p : CueCall) (keeps : keeps_mode p ≡ true) where
  -- they are alike outside of the call's bits
  record Twins (r t : Record) : Type 0 where
    header : r.header ≡ t.header
    image : r.image ≡ t.image
    first : Sound r
    second : Sound t
    alike : Alike (change_of wide p) r.settings t.settings

  twins_width : (r t : Record) → Twins r t → wide_in r ≡ wide_in t
  twins_width r t w = alike_width wide p keeps r.settings t.settings w.alike

  -- so that both answer any call the same,
  twins_answer : (r t : Record) → Twins r t → (q : CueCall) → answer_to r q ≡ answer_to t q
  twins_answer r t w q =
      sound_answer_lem r w.first q
      ∙ ap (λ (h : Header). arguments_answer h r.settings (setting_in q) (lent_with q)) w.header
      ∙ answer_by_width t.header r.settings t.settings (twins_width r t w) q
      ∙ sym (sound_answer_lem t w.second q)

  -- and stay twins behind it
  twins_step : (r t : Record) → Twins r t → (q : CueCall) → Twins (after r q) (after t q)
  unfolding setting_of changed_to
  twins_step r t w q = record {
    header = w.header;
    image = w.image;
    first = setting_sound r (setting_in q) (lent_with q) w.first;
    second = setting_sound t (setting_in q) (lent_with q) w.second;
    alike = rw (← twins_answer r t w q) (go (accepted (answer_to r q)) refl);
  }
    where
      go : (b : Bool) → accepted (answer_to r q) ≡ b →
          Alike (change_of wide p) (cond b (put r.settings q) r.settings) (cond b (put t.settings q) t.settings)
      go true e =
          alike_stays (change_of wide p) (change_of (wide_in r) q) r.settings t.settings (put r.settings q) (put t.settings q) w.alike
          (taken_makes r q e)
          (subst (λ (b : Bool). Makes (change_of b q) t.settings (put t.settings q)) (sym (twins_width r t w))
          (taken_makes t q (ap accepted (sym (twins_answer r t w q)) ∙ e)))
      go false e = w.alike

  twins_all : (r t : Record) → Twins r t → (qs : List CueCall) → Twins (after_all r qs) (after_all t qs)
  twins_all r t w [] = w
  twins_all r t w (q ∷ qs) = twins_all (after r q) (after t q) (twins_step r t w q) qs

-- a record and the one behind an accepted call are twins
twins_start : (p : CueCall) (keeps : keeps_mode p ≡ true) (r : Record) → Takes r p → Twins (wide_in r) p keeps r (after r p)
twins_start p keeps r t =
    let s : Sound r = sound_is r (setting_taken r (setting_in p) (lent_with p) t).0 in
    record {
      header = ap (λ (x : Record). x.header) (sym (taken_after r p t));
      image = ap (λ (x : Record). x.image) (sym (taken_after r p t));
      first = s;
      second = setting_sound r (setting_in p) (lent_with p) s;
      alike = subst (λ (x : Record). Alike (change_of (wide_in r) p) r.settings x.settings) (sym (taken_after r p t))
          (makes_alike (change_of (wide_in r) p) r.settings (put r.settings p) (image_bytes r.header.member r.settings s.settings) (taken_makes r p t));
    }

-- so a call that leaves 001h changes no answer, accepted or refused
pub answers_stay : AnswersStay
answers_stay r p q keeps = go (accepted (answer_to r p)) refl
  where
    go : (b : Bool) → accepted (answer_to r p) ≡ b → answer_to (after r p) q ≡ answer_to r q
    go true t = sym (twins_answer (wide_in r) p keeps r (after r p) (twins_start p keeps r t) q)
    go false t = ap (λ (x : Record). answer_to x q) ((setting_sets r (setting_in p) (lent_with p)).refuses t)

taken_without : (r : Record) (p q : CueCall) → keeps_mode p ≡ true → Takes (after r p) q → Takes r q
taken_without r p q keeps t = ap accepted (sym (answers_stay r p q keeps)) ∙ t

taken_behind : (r : Record) (p q : CueCall) → keeps_mode p ≡ true → Takes r q → Takes (after r p) q
taken_behind r p q keeps t = ap accepted (answers_stay r p q keeps) ∙ t

-- ---- either order

-- b on the settings that a left: a change for settings of the old width
next_makes : (r : Record) (a b : CueCall) → keeps_mode a ≡ true → Takes r a → Takes (after r a) b →
    Makes (change_of (wide_in r) b) (put r.settings a) (put (put r.settings a) b)
next_makes r a b keeps ta tb =
    subst (λ (x : Record). Makes (change_of (wide_in r) b) x.settings (put x.settings b)) (taken_after r a ta)
    (subst (λ (w : Bool). Makes (change_of w b) (after r a).settings (put (after r a).settings b))
    (sym (twins_width (wide_in r) a keeps r (after r a) (twins_start a keeps r ta))) (taken_makes (after r a) b tb))

-- two calls at different bits
calls_either_order : (r : Record) (p q : CueCall) → keeps_mode p ≡ true → keeps_mode q ≡ true →
    DifferentBits (change_of (wide_in r) p) (change_of (wide_in r) q) → Takes r p → Takes (after r p) q → EitherOrder r p q
calls_either_order r p q kp kq apart tp tq = record {
  first = first;
  second = second;
  same =
      both p q tp tq
      ∙ ap (λ (x : List ℕ). record_of r.header x r.image)
      (either_order (change_of (wide_in r) p) (change_of (wide_in r) q) apart r.settings
      (put r.settings p) (put (put r.settings p) q) (put r.settings q) (put (put r.settings q) p)
      (taken_makes r p tp) (next_makes r p q kp tp tq) (taken_makes r q first) (next_makes r q p kq first second))
      ∙ sym (both q p first second);
}
  where
    first : Takes r q
    first = taken_without r p q kp tq

    second : Takes (after r q) p
    second = taken_behind r q p kq tp

    both : (a b : CueCall) → Takes r a → Takes (after r a) b → after (after r a) b ≡ record_of r.header (put (put r.settings a) b) r.image
    both a b ta tb = taken_after (after r a) b tb ∙ ap (λ (x : Record). record_of x.header (put x.settings b) x.image) (taken_after r a ta)

-- ---- the later one

-- a call that has all the bits of an earlier one
later_stands : (r : Record) (p q : CueCall) (between : List CueCall) → keeps_mode p ≡ true → Takes r p → Takes (after_all (after r p) between) q →
    Covers (change_of (wide_in (after_all (after r p) between)) q) (change_of (wide_in r) p) → LaterStands r p between q
later_stands r p q between keeps tp tq covers = record {
  alone = alone;
  same =
      taken_after (after_all (after r p) between) q tq
      ∙ (λ i. record_of (sym w.header i) (settings i) (sym w.image i))
      ∙ sym (taken_after (after_all r between) q alone);
}
  where
    w : Twins (wide_in r) p keeps (after_all r between) (after_all (after r p) between)
    w = twins_all (wide_in r) p keeps r (after r p) (twins_start p keeps r tp) between

    alone : Takes (after_all r between) q
    alone = ap accepted (twins_answer (wide_in r) p keeps (after_all r between) (after_all (after r p) between) w q) ∙ tq

    settings : put (after_all (after r p) between).settings q ≡ put (after_all r between).settings q
    settings =
        sym (alike_meets (change_of (wide_in r) p) (change_of (wide_in (after_all (after r p) between)) q) covers
        (after_all r between).settings (after_all (after r p) between).settings
        (put (after_all r between).settings q) (put (after_all (after r p) between).settings q) w.alike
        (subst (λ (b : Bool). Makes (change_of b q) (after_all r between).settings (put (after_all r between).settings q))
        (twins_width (wide_in r) p keeps (after_all r between) (after_all (after r p) between) w) (taken_makes (after_all r between) q alone))
        (taken_makes (after_all (after r p) between) q tq))

-- ---- the claims

-- what an accepted call on a dot and an accepted scene say of their dots
dot_there : (r : Record) (c : Sort) (l s v : ℕ) → Takes r (dot c l s v) → is_dot r.header.member l s ≡ true
dot_there r c l s v t = dot_taken r.header r.settings c l s v (setting_taken r (setting_in (dot c l s v)) [] t).1

scene_there : (r : Record) (bytes : List ℕ) → Takes r (scene bytes) → SceneTaken r.header r.settings bytes
unfolding arguments_answer
scene_there r bytes t = scene_taken r.header r.settings bytes (setting_taken r (setting_in (scene bytes)) bytes t).1

-- "two accepted Lamp, Group or Switch calls on different dots, or of different sorts, give the same record in either order"
pub dots_in_either_order : DotsInEitherOrder
unfolding keeps_mode
dots_in_either_order r c d l s v k t w n tp tq =
    calls_either_order r (dot c l s v) (dot d k t w) refl refl
    (dots_apart (wide_in r) r.header.member c d l s v k t w n (dot_there r c l s v tp)
    (dot_there r d k t w (taken_without r (dot c l s v) (dot d k t w) refl tq))) tp tq

-- "of two accepted Lamp calls on one dot in one data mode the later one stands"
pub later_lamp_stands : LaterLampStands
unfolding keeps_mode change_of sort_field
later_lamp_stands r l s v w between tp tq e =
    later_stands r (dot lamp l s v) (dot lamp l s w) between refl tp tq
    (subst (λ (b : Bool). Covers (change_of b (dot lamp l s w)) (change_of (wide_in r) (dot lamp l s v))) e (λ k h. h))

-- "a Scene given twice is as given once"
pub scene_twice : SceneTwice
unfolding keeps_mode
scene_twice r bytes t = (again, (later_stands r (scene bytes) (scene bytes) [] refl t again covers).same)
  where
    again : Takes (after r (scene bytes)) (scene bytes)
    again = taken_behind r (scene bytes) (scene bytes) refl t

    covers : Covers (change_of (wide_in (after r (scene bytes))) (scene bytes)) (change_of (wide_in r) (scene bytes))
    covers =
        subst (λ (b : Bool). Covers (change_of b (scene bytes)) (change_of (wide_in r) (scene bytes)))
        (twins_width (wide_in r) (scene bytes) refl r (after r (scene bytes)) (twins_start (scene bytes) refl r t)) (λ k h. h)

-- "two scenes with no dot in common change places freely"
pub scenes_in_either_order : ScenesInEitherOrder
unfolding keeps_mode
scenes_in_either_order r one other n tp tq =
    calls_either_order r (scene one) (scene other) refl refl
    (scenes_apart (wide_in r) r.header.member one other (scene_there r one tp).dots
    (scene_there r other (taken_without r (scene one) (scene other) refl tq)).dots n) tp tq

-- a Scene and a call on a dot
pub scene_and_dot_in_either_order : SceneAndDotInEitherOrder
unfolding keeps_mode
scene_and_dot_in_either_order r bytes c l s v n tp tq =
    calls_either_order r (scene bytes) (dot c l s v) refl refl
    (different_swapped (change_of (wide_in r) (dot c l s v)) (change_of (wide_in r) (scene bytes))
    (scene_dot_apart (wide_in r) r.header.member c l s v bytes
    (dot_there r c l s v (taken_without r (scene bytes) (dot c l s v) refl tq)) (scene_there r bytes tp).dots n)) tp tq
