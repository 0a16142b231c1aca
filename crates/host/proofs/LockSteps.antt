-- The images of a sound record.
-- Assumes nothing.
use mathlib.Core.Path.{◌≡◌, refl, sym, ap, ◌∙◌}
use mathlib.Core.Bool.{Bool, true, false, cond, ◌&&◌}
use mathlib.Core.List.{List}
use Prim.Native.Nat.{ℕ}
use borrow.Author.Tests.{eq-eqb}
use lib.Dec.{eqb}
use lib.ListN.{length}
use Rattle.std.specs.Prelude.{Ok, Err}
use Rattle.map.specs.declared.refusals.Refusal.TheVariants.{Unsound}
use Rattle.map.specs.Refusals.{Answer, accepted}
use Rattle.host.specs.declared.Record.{Record}
use Rattle.host.specs.Record.{sound_of, sound_answer, when_sound}
use Rattle.host.proofs.SoundLaws.{sound_is}

-- ---- images

pub sound_sizes : (r : Record) → sound_of r ≡ true → (length r.settings ≡ 908) × (length r.image ≡ 908)
sound_sizes r e = ((sound_is r e).settings.size, (sound_is r e).image.size)

-- an image takes the reset values wherever Power lost is accepted: it then has 908 bytes
pub lost_image : (r : Record) (x : Answer) (new : List ℕ) → x ≡ sound_answer r →
    cond (accepted x && eqb (length r.image) 908) new r.image ≡ cond (accepted x) new r.image
unfolding sound_answer when_sound
lost_image r x new e =
    ap (λ (y : Answer). cond (accepted y && eqb (length r.image) 908) new r.image) e
    ∙ go (sound_of r) refl
    ∙ ap (λ (y : Answer). cond (accepted y) new r.image) (sym e)
  where
    answer : Bool → Answer
    answer b = cond b (Ok tt) (Err Unsound)

    go : (b : Bool) → sound_of r ≡ b → cond (accepted (answer b) && eqb (length r.image) 908) new r.image ≡ cond (accepted (answer b)) new r.image
    go true h = rw (eq-eqb _ _ (sound_sizes r h).1) refl
    go false h = refl
