-- "It acts as n Lamp calls in order": an accepted scene gives the record that so many Lamp calls give, each of them accepted.
-- "a dot twice takes the last level, n = 0 changes nothing".
-- Assumes nothing.
use Rattle.std.specs.Prelude.{◌≡◌, Bool, true, false, cond}
use Rattle.std.proofs.Math.Path.{refl, sym, ap, subst}
use Rattle.std.proofs.Common.{◌∙◌, arith}
use mathlib.Core.List.{List, []}
use Prim.Native.Nat.{ℕ, zero, suc, ◌/◌, ◌%◌, ◌<◌, ◌≤◌}
use Rattle.std.proofs.Math.Decide.{ℕ_discrete}
use Rattle.map.specs.Refusals.{accepted}
use Rattle.map.specs.Map.{is_dot, number_in}
use Rattle.map.specs.PlaceLaws.{dot_again}
use Rattle.map.specs.ListLaws.{all_at}
use Rattle.dots.specs.Dots.{wide_of, top_level, put_level, level_of}
use Rattle.dots.specs.DotLaws.{level_mode, level_reads_back, level_other}
use Rattle.dots.specs.DotImages.{number_small}
use Rattle.calls.specs.declared.Setting.{Setting}
use Rattle.calls.specs.declared.Setting.TheVariants.{Lamp, Scene}
use Rattle.host.specs.declared.Record.{Record}
use Rattle.host.specs.Record.{record_of, sound_of, when_sound, when_dot, lamp_answer, arguments_answer, setting_answer, put_setting, setting_of}
use Rattle.host.specs.Record.{scene_count, scene_dot, scene_level, scene_has_dot, scene_fits, put_scene, scene_of}
use Rattle.host.specs.RecordLaws.{setting_taken, lamp_taken, SceneTaken, scene_taken}
use Rattle.host.specs.LockLaws.{scene_marks}
use Rattle.host.proofs.SoundLaws.{Sound, sound_is, is_sound, scene_image}
use Rattle.host.proofs.SettingLaws.{setting_sets}

-- the Lamp call of an entry
abbrev entry_lamp : List ℕ → ℕ → Setting
entry_lamp bytes i = Lamp (scene_dot bytes i / 18) (scene_dot bytes i % 18) (scene_level bytes i)

unfoldable pub entry_answer : Record → List ℕ → ℕ → Bool
entry_answer r bytes i = accepted (setting_answer r (entry_lamp bytes i) [])

-- the record after the first k of them
unfoldable pub lamps_of : Record → List ℕ → ℕ → Record
lamps_of r bytes zero = r
lamps_of r bytes (suc k) = (setting_of (lamps_of r bytes k) (entry_lamp bytes k) []).host

-- a scene changes no data mode, and so no largest level
pub scene_mode : (bytes image : List ℕ) (k : ℕ) → wide_of (put_scene bytes image k) ≡ wide_of image
unfolding put_scene
scene_mode bytes image zero = refl
scene_mode bytes image (suc k) = level_mode (put_scene bytes image k) (scene_dot bytes k) (scene_level bytes k) ∙ scene_mode bytes image k

scene_top : (bytes image : List ℕ) (k : ℕ) → top_level (put_scene bytes image k) ≡ top_level image
unfolding top_level
scene_top bytes image k = ap (λ (b : Bool). cond b 65535 255) (scene_mode bytes image k)

module _ (r : Record) (bytes : List ℕ) (t : accepted (setting_answer r Scene bytes) ≡ true) where
  taken : SceneTaken r.header r.settings bytes
  unfolding arguments_answer
  taken = scene_taken r.header r.settings bytes (setting_taken r Scene bytes t).1

  abbrev m : ℕ
  m = r.header.member

  -- the record with the first k levels
  abbrev part : ℕ → Record
  part k = record_of r.header (put_scene bytes r.settings k) r.image

  part_sound : (k : ℕ) → k ≤ scene_count bytes → sound_of (part k) ≡ true
  part_sound k h =
      let s : Sound r = sound_is r (setting_taken r Scene bytes t).0 in
      is_sound (part k) (record {
        opened = s.opened;
        settings = scene_image m r.settings bytes (scene_count bytes) s.settings taken.dots k h;
        image = s.image;
        marks = scene_marks r.header r.settings r.image s.marks bytes k;
      })

  entry_taken : (k : ℕ) → k < scene_count bytes → accepted (setting_answer (part k) (entry_lamp bytes k) []) ≡ true
  unfolding setting_answer arguments_answer lamp_answer when_dot when_sound scene_has_dot scene_fits number_in is_dot
  entry_taken k h =
      rw (
        part_sound k (omega arith),
        all_at (scene_has_dot m bytes) 0 (scene_count bytes) taken.dots k (omega arith) (omega arith),
        scene_top bytes r.settings k,
        all_at (scene_fits (top_level r.settings) bytes) 0 (scene_count bytes) taken.fits k (omega arith) (omega arith),
      ) refl

  lamps_part : (k : ℕ) → k ≤ scene_count bytes → lamps_of r bytes k ≡ part k
  unfolding lamps_of put_scene put_setting
  lamps_part zero h = refl
  lamps_part (suc k) h =
      ap (λ (x : Record). (setting_of x (entry_lamp bytes k) []).host) (lamps_part k (omega arith))
      ∙ (setting_sets (part k) (entry_lamp bytes k) []).accepts (entry_taken k (omega arith))
      ∙ ap (λ (d : ℕ). record_of r.header (put_level (put_scene bytes r.settings k) d (scene_level bytes k)) r.image) (dot_again (scene_dot bytes k))

  -- each Lamp call is accepted, and together they give the scene's record
  pub scene_lamps_taken : (k : ℕ) → k < scene_count bytes → entry_answer (lamps_of r bytes k) bytes k ≡ true
  unfolding entry_answer
  scene_lamps_taken k h =
      ap (λ (x : Record). accepted (setting_answer x (entry_lamp bytes k) [])) (lamps_part k (omega arith)) ∙ entry_taken k h

  pub scene_is_lamps : (scene_of r bytes).host ≡ lamps_of r bytes (scene_count bytes)
  unfolding put_setting
  scene_is_lamps = (setting_sets r Scene bytes).accepts t ∙ sym (lamps_part (scene_count bytes) (omega arith))

  entry_reads_back : (k : ℕ) → k < scene_count bytes →
      level_of (put_level (put_scene bytes r.settings k) (scene_dot bytes k) (scene_level bytes k)) (scene_dot bytes k) ≡ scene_level bytes k
  unfolding scene_has_dot arguments_answer
  entry_reads_back k h =
      let e = (setting_taken (part k) (entry_lamp bytes k) [] (entry_taken k h)).1 in
      level_reads_back (put_scene bytes r.settings k) (scene_dot bytes k) (scene_level bytes k)
      (sound_is (part k) (part_sound k (omega arith))).settings.size
      (number_small m (scene_dot bytes k) (all_at (scene_has_dot m bytes) 0 (scene_count bytes) taken.dots k (omega arith) (omega arith)))
      (lamp_taken r.header (put_scene bytes r.settings k) (scene_dot bytes k / 18) (scene_dot bytes k % 18) (scene_level bytes k) e).fits

  module _ (j : ℕ) (last : (i : ℕ) → j < i → i < scene_count bytes → scene_dot bytes i ≡ scene_dot bytes j → ⊥) where
    -- after the first k entries, where the dot of entry j is in no later one
    part_reads_back : (k : ℕ) → j < k → k ≤ scene_count bytes → level_of (put_scene bytes r.settings k) (scene_dot bytes j) ≡ scene_level bytes j
    unfolding put_scene
    part_reads_back zero l h = absurd (omega arith)
    part_reads_back (suc k) l h = go (ℕ_discrete k j) (λ before. part_reads_back k before (omega arith))
      where
        go : Dec (k ≡ j) → (j < k → level_of (put_scene bytes r.settings k) (scene_dot bytes j) ≡ scene_level bytes j) →
            level_of (put_level (put_scene bytes r.settings k) (scene_dot bytes k) (scene_level bytes k)) (scene_dot bytes j) ≡ scene_level bytes j
        go (yes e) ih =
            subst (λ (x : ℕ). level_of (put_level (put_scene bytes r.settings k) (scene_dot bytes k) (scene_level bytes k)) (scene_dot bytes x) ≡ scene_level bytes x) e
            (entry_reads_back k h)
        go (no n) ih =
            level_other (put_scene bytes r.settings k) (scene_dot bytes k) (scene_level bytes k) (scene_dot bytes j) (λ q. last k (omega arith) h (sym q))
            ∙ ih (omega arith)

    -- "a dot twice takes the last level": an accepted scene reads back the level of the last entry of each dot
    pub scene_reads_back : j < scene_count bytes → level_of (scene_of r bytes).host.settings (scene_dot bytes j) ≡ scene_level bytes j
    unfolding put_setting
    scene_reads_back h =
        ap (λ (x : Record). level_of x.settings (scene_dot bytes j)) ((setting_sets r Scene bytes).accepts t)
        ∙ part_reads_back (scene_count bytes) h (omega arith)

-- "n = 0 changes nothing"
pub scene_empty : (r : Record) (bytes : List ℕ) → scene_count bytes ≡ 0 → (scene_of r bytes).host ≡ r
unfolding put_scene put_setting
scene_empty r bytes e = go (accepted (setting_answer r Scene bytes)) refl
  where
    go : (b : Bool) → accepted (setting_answer r Scene bytes) ≡ b → (scene_of r bytes).host ≡ r
    go true t = (setting_sets r Scene bytes).accepts t ∙ ap (λ (n : ℕ). record_of r.header (put_scene bytes r.settings n) r.image) e
    go false t = (setting_sets r Scene bytes).refuses t
