-- Laws of a sound record and its update: what its enable bytes are, and that the data bytes fit their addresses.
-- Assumes nothing.
use Rattle.std.specs.Prelude.{◌≡◌, refl, ◌⊎◌, Bool, true, false, not, ◌||◌, List, [], ◌∷◌, map, ℕ, ◌+◌, ◌-◌, ◌≤◌, ◌<◌, leb, eqb, length, get_or}
use Rattle.std.proofs.Common.{sym, ap, ◌∙◌, subst, inl, inr, true≢false, arith, eq-eqb, leb-true}
use Rattle.std.proofs.Math.Decide.{dec_lt}
use Rattle.std.specs.Int.Bits.{bit_and}
use Rattle.std.proofs.lemmas.List.Edits.{sets}
use Rattle.std.proofs.Math.Seq.{length-sets}
use Rattle.map.specs.Map.{reserved_of}
use Rattle.map.specs.ByteLaws.{enable_mask, enable_reset}
use Rattle.map.specs.WritableLaws.{below_writable}
use Rattle.map.specs.Lists.{all_from}
use Rattle.map.specs.ListLaws.{all_at}
use Rattle.map.specs.ImageLaws.{Fit, Image}
use Rattle.burst.specs.Burst.{Burst}
use Rattle.plan.specs.Lists.{All, sets_outside, sets_inside}
use Rattle.plan.specs.Writes.{AllGood}
use Rattle.plan.specs.Update.{View, update_for, store_all, write_of, Layout}
use Rattle.plan.proofs.UpdateLaws.{Fitting, update_good, update_fitting}
use Rattle.plan.proofs.LockLaws.{stored_outside}
use Rattle.host.specs.declared.Header.{Header}
use Rattle.host.specs.declared.Record.{Record}
use Rattle.host.specs.Record.{is_trim, lock_keeps, may_write}
use Rattle.host.specs.RecordLaws.{not_locked, writable_may, enable_free}
use Rattle.host.specs.LockLaws.{Marks}
use Rattle.host.proofs.SoundLaws.{Sound}
use Rattle.writes.specs.Marks.{chip_view}
use Rattle.update.specs.Update.{writes_of, updating}

-- ---- 000h

-- every byte without the reserved bits of 000h is 0 or 1
low_bit : ℕ → Bool
low_bit v = not (eqb (bit_and v 0xFE) 0) || leb v 1

-- a byte of 000h is 0 or 1
pub enable_byte : (m v : ℕ) → m < 5 → Fit m 0 v → v ≤ 1
unfolding low_bit all_from
enable_byte m v h f = leb-true v 1 (second (eqb (bit_and v 0xFE) 0) (eq-eqb (bit_and v 0xFE) 0 none) (all_at low_bit 0 256 refl v (omega arith) f.byte))
  where
    none : bit_and v 0xFE ≡ 0
    none = ap (bit_and v) (sym (enable_mask m h)) ∙ f.kept ∙ ap (λ (x : ℕ). bit_and x (reserved_of m 0)) (enable_reset m) ∙ ap (bit_and 0) (enable_mask m h)

    second : (b : Bool) → b ≡ true → (not b || leb v 1) ≡ true → leb v 1 ≡ true
    second true e t = t
    second false e t = absurd (true≢false (sym e))

-- ---- data bytes that fit

pub image_layout : (h : Header) (settings : List ℕ) → Image h.member settings → Layout (may_write h) 908 settings
image_layout h settings s = record {
  some = omega arith;
  enable_ok = writable_may h 0 (below_writable h.member 0 (omega (arith, enable_mask h.member s.member))) (enable_free h);
  size = s.size;
}

store_one : (m : ℕ) (b : Burst) → Fitting (Fit m) 908 b → (image : List ℕ) → Image m image → Image m (sets image b.start b.bytes)
store_one m b f image i = record {
  member = i.member;
  size = length-sets image b.start b.bytes ∙ i.size;
  fits = λ a h. at a h (dec_lt a b.start) (dec_lt a (b.start + length b.bytes));
}
  where
    kept : (a : ℕ) → a < 908 → (a < b.start) ⊎ (b.start + length b.bytes ≤ a) → Fit m a (get_or (sets image b.start b.bytes) a 0)
    kept a h p = subst (Fit m a) (sym (sets_outside b.bytes image b.start a p)) (i.fits a h)

    stored : (j : ℕ) → j < length b.bytes → Fit m (b.start + j) (get_or (sets image b.start b.bytes) (b.start + j) 0)
    stored j h =
        subst (Fit m (b.start + j)) (sym (sets_inside b.bytes image b.start j h (omega (arith, f.inside, i.size)))) (f.fits j h)

    at : (a : ℕ) → a < 908 → Dec (a < b.start) → Dec (a < b.start + length b.bytes) → Fit m a (get_or (sets image b.start b.bytes) a 0)
    at a h (yes p) q = kept a h (inl p)
    at a h (no p) (no q) = kept a h (inr (omega arith))
    at a h (no p) (yes q) =
        subst (λ (x : ℕ). Fit m x (get_or (sets image b.start b.bytes) x 0)) (omega arith) (stored (a - b.start) (omega arith))

pub store_image : (m : ℕ) (bs : List Burst) → All (Fitting (Fit m) 908) bs → (image : List ℕ) → Image m image → Image m (store_all bs image)
store_image m [] f image i = i
store_image m (b ∷ bs) f image i = store_image m bs f.1 (sets image b.start b.bytes) (store_one m b f.0 image i)

-- every data byte of an update may stand at its address
pub update_fits : (h : Header) (settings : List ℕ) → Image h.member settings → (v : View) →
    All (Fitting (Fit h.member) 908) (update_for (may_write h) 908 settings v)
update_fits h settings s v =
    update_fitting (may_write h) 908 settings (image_layout h settings s) (Fit h.member) (λ a l k. s.fits a l)
    (enable_byte h.member (get_or settings 0 0) s.member (s.fits 0 (omega arith))) v

-- ---- the locked addresses

-- writes to addresses that may be written leave the marks right
pub store_marks : (h : Header) (settings image : List ℕ) → Marks h settings image → (bs : List Burst) → AllGood (may_write h) 908 (map write_of bs) →
    Marks h settings (store_all bs image)
unfolding lock_keeps is_trim
store_marks h settings image k bs g = record {
  most = k.most;
  trims = λ l. record {
    first = (k.trims l).first ∙ sym (stored_outside (may_write h) 908 bs g image 0x003 (not_locked h 0x003 l));
    second = (k.trims l).second ∙ sym (stored_outside (may_write h) 908 bs g image 0x004 (not_locked h 0x004 l));
  };
}

-- so the record that an update leaves is sound
pub update_sound : (r : Record) → Sound r → Sound (updating r).host
unfolding writes_of
update_sound r s = record {
  opened = s.opened;
  settings = s.settings;
  image = store_image r.header.member (writes_of r) (update_fits r.header r.settings s.settings (chip_view r)) r.image s.image;
  marks = store_marks r.header r.settings r.image s.marks (writes_of r)
      (update_good (may_write r.header) 908 r.settings (image_layout r.header r.settings s.settings) (chip_view r));
}
