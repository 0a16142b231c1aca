-- What the calls change and what they leave: settings take exactly what their call puts there, and are read back.
-- Assumes nothing.
use Rattle.std.specs.Prelude.{◌≡◌, true, false, ℕ, suc, ◌^◌}
use Rattle.std.proofs.Math.Path.{refl, ap}
use Rattle.std.proofs.Common.{◌∙◌, arith}
use mathlib.Core.List.{List, []}
use Rattle.map.specs.Refusals.{Answer}
use Rattle.map.specs.declared.dots.Field.{Field}
use Rattle.map.specs.declared.dots.Field as fields
use Rattle.map.specs.Refusals.{accepted}
use Rattle.map.specs.Map.{dot_number, width_of}
use Rattle.map.specs.MapLaws.{lines_most, dot_line, dot_sink}
use Rattle.map.specs.PlaceLaws.{dot_number_lem, place_below}
use Rattle.dots.specs.Dots.{level_of, put_field, field_of}
use Rattle.dots.specs.DotLaws.{level_reads_back, field_reads_back}
use Rattle.dots.specs.DotImages.{group_width, switch_width}
use Rattle.calls.specs.declared.Setting.{Setting}
use Rattle.calls.specs.declared.Setting.TheVariants.{Lamp, Group, Switch}
use Rattle.host.specs.declared.Record.{Record}
use Rattle.host.specs.declared.Changed.{Changed}
use Rattle.host.specs.Record.{record_of, locked, marked_as, sound_of, lamp_of, group_of, switch_of, arguments_answer, setting_answer, put_setting, changed_to, setting_of, sound_answer, chip_reset, power_lost_of, lock_answer, lock_of, field_answer}
use Rattle.host.specs.RecordLaws.{setting_taken, lamp_taken, field_taken}
use Rattle.host.proofs.SoundLaws.{sound_is}

-- ---- a setting changes the settings alone

-- the record that a setting gives back: the answer decides between the new settings and the old, and the rest is untouched
pub record Sets (r : Record) (answer : Answer) (new : List ℕ) (x : Changed) : Type 0 where
  pub answered : x.answer ≡ answer
  pub accepts : accepted answer ≡ true → x.host ≡ record_of r.header new r.image
  pub refuses : accepted answer ≡ false → x.host ≡ r

module _ (r : Record) where
  pub setting_sets : (q : Setting) (lent : List ℕ) → Sets r (setting_answer r q lent) (put_setting r.settings q lent) (setting_of r q lent)
  unfolding setting_of changed_to
  setting_sets q lent = record { answered = refl; accepts = λ e. rw e refl; refuses = λ e. rw e refl }

  -- Power lost: "the chip image has reset values and the settings are kept", and the lock is released
  pub power_loses : accepted (sound_answer r) ≡ true → (power_lost_of r).host ≡ chip_reset r
  unfolding power_lost_of
  power_loses e = rw e refl

  pub power_refuses : accepted (sound_answer r) ≡ false → (power_lost_of r).host ≡ r
  unfolding power_lost_of
  power_refuses e = rw e refl

  -- Lock: only the mark changes
  pub lock_locks : accepted (lock_answer r) ≡ true → (lock_of r).host ≡ record_of (marked_as r.header locked) r.settings r.image
  unfolding lock_of
  lock_locks e = rw e refl

  pub lock_refuses : accepted (lock_answer r) ≡ false → (lock_of r).host ≡ r
  unfolding lock_of
  lock_refuses e = rw e refl

-- ---- an accepted call is read back

module _ (r : Record) (l s v : ℕ) where
  -- an accepted Lamp reads back its level, in the data mode of the settings
  pub lamp_reads_back : accepted (setting_answer r (Lamp l s v) []) ≡ true → level_of (lamp_of r l s v).host.settings (dot_number l s) ≡ v
  unfolding arguments_answer put_setting
  lamp_reads_back e =
      let t = setting_taken r (Lamp l s v) [] e in
      let lamp = lamp_taken r.header r.settings l s v t.1 in
      ap (λ (x : Record). level_of x.settings (dot_number l s)) ((setting_sets r (Lamp l s v) []).accepts e)
      ∙ level_reads_back r.settings (dot_number l s) v (sound_is r t.0).settings.size (dot_number_lem r.header.member l s lamp.dot) lamp.fits

  -- a field whose largest value is top
  put_reads_back : (f : Field) (top : ℕ) → 2 ^ width_of f ≡ suc top → sound_of r ≡ true → accepted (field_answer r.header l s v top) ≡ true →
      field_of f (put_field f r.settings l s v) l s ≡ v
  put_reads_back f top w sound e =
      let t = field_taken r.header l s v top e in
      let m : ℕ = r.header.member in
      field_reads_back f r.settings l s v
      (omega (arith, (sound_is r sound).settings.size, place_below f l s (omega (arith, dot_line m l s t.dot, lines_most m)) (dot_sink m l s t.dot)))
      (omega (arith, t.fits))

  -- an accepted Group reads back its group
  pub group_reads_back : accepted (setting_answer r (Group l s v) []) ≡ true → field_of fields.TheVariants.Group (group_of r l s v).host.settings l s ≡ v
  unfolding arguments_answer put_setting
  group_reads_back e =
      let t = setting_taken r (Group l s v) [] e in
      ap (λ (x : Record). field_of fields.TheVariants.Group x.settings l s) ((setting_sets r (Group l s v) []).accepts e)
      ∙ put_reads_back fields.TheVariants.Group 3 group_width t.0 t.1

  -- an accepted Switch reads back its state
  pub switch_reads_back : accepted (setting_answer r (Switch l s v) []) ≡ true → field_of fields.TheVariants.Switch (switch_of r l s v).host.settings l s ≡ v
  unfolding arguments_answer put_setting
  switch_reads_back e =
      let t = setting_taken r (Switch l s v) [] e in
      ap (λ (x : Record). field_of fields.TheVariants.Switch x.settings l s) ((setting_sets r (Switch l s v) []).accepts e)
      ∙ put_reads_back fields.TheVariants.Switch 1 switch_width t.0 t.1
