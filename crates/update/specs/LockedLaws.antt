-- What a lock costs an update: not a bus byte, and at most one write more. 003h and 004h lie between 002h and 005h, which share a write of six
-- bytes without the lock; with it they are two writes of three.
-- Assumes nothing.
use Rattle.std.specs.Prelude.{◌≡◌, refl, true, false, List, [], ◌∷◌, map, length}
use Rattle.std.proofs.Common.{sym, ap, ◌∙◌, arith}
use Rattle.std.proofs.Math.Bool.{Bool}
use Prim.Native.Nat.{ℕ, zero, suc, ◌%◌, ◌≤◌}
use borrow.Author.Tests.{eq-eqb, ne_eqb, eqb-true, eqb-false}
use Rattle.map.specs.Map.{writable_of}
use Rattle.map.specs.Carries.{first}
use Rattle.map.specs.WritableLaws.{carries_writable}
use Rattle.map.specs.ImageLaws.{Image}
use Rattle.burst.specs.Burst.{Burst, bus_bytes}
use Rattle.plan.specs.Plan.{Write}
use Rattle.plan.proofs.PlanLaws.{plan_same}
use Rattle.plan.specs.Update.{value_at, mark_at, marks_for, on_by, data_of, update_by, update_for}
use Rattle.plan.proofs.LockLaws.{LockedAt, locked_bytes, locked_least, locked_count}
use Rattle.host.specs.declared.Record.{Record}
use Rattle.host.specs.Record.{record_of, free, locked, marked_as, is_trim, is_locked, lock_keeps, may_write}
use Rattle.host.specs.RecordLaws.{free_write}
use Rattle.host.specs.LockLaws.{SameTrims}
use Rattle.host.proofs.SoundLaws.{Sound}
use Rattle.writes.specs.Marks.{chip_view, marks_of}
use Rattle.update.specs.Update.{writes_of}
use Rattle.update.specs.UpdateLaws.{image_layout}

-- a record with these marks
abbrev pub marked : Record → ℕ → Record
marked r marks = record_of (marked_as r.header marks) r.settings r.image

module _ (r : Record) (i : Image r.header.member r.settings) (t : SameTrims r.settings r.image) where
  -- the lock takes 003h and 004h from what may be written, and nothing else
  locked_at : LockedAt (may_write (marked_as r.header free)) (may_write (marked_as r.header locked)) 0x003
  unfolding may_write lock_keeps is_trim is_locked
  locked_at = record {
    past = omega arith;
    first = rw (carries_writable r.header.member 0x003 (first i.member (omega arith))) refl;
    second = rw (carries_writable r.header.member 0x004 (first i.member (omega arith))) refl;
    first_locked = rw (carries_writable r.header.member 0x003 (first i.member (omega arith))) refl;
    second_locked = rw (carries_writable r.header.member 0x004 (first i.member (omega arith))) refl;
    else_same = λ a n k. rw (ne_eqb a 0x003 n, ne_eqb a 0x004 k) refl;
  }

  -- t is what it is without the lock,
  pub lock_bytes : bus_bytes (writes_of (marked r locked)) ≡ bus_bytes (writes_of (marked r free))
  unfolding writes_of
  lock_bytes =
      locked_bytes (may_write (marked_as r.header free)) (may_write (marked_as r.header locked)) 0x003 locked_at 908 r.settings (chip_view r)
      (eq-eqb _ _ (sym t.first)) (eq-eqb _ _ (sym t.second)) (image_layout (marked_as r.header free) r.settings i)

  -- and n is that, or one more
  pub lock_count : (length (writes_of (marked r free)) ≤ length (writes_of (marked r locked)))
      × (length (writes_of (marked r locked)) ≤ suc (length (writes_of (marked r free))))
  unfolding writes_of
  lock_count =
      let may : ℕ → Bool = may_write (marked_as r.header free) in
      let held : ℕ → Bool = may_write (marked_as r.header locked) in
      let one = eq-eqb _ _ (sym t.first) in
      let two = eq-eqb _ _ (sym t.second) in (
        locked_least may held 0x003 locked_at 908 r.settings (chip_view r) one two,
        locked_count may held 0x003 locked_at 908 r.settings (chip_view r) one two,
      )

  -- so that with nothing to send there is nothing to send behind a Lock
  pub lock_nothing : writes_of (marked r free) ≡ [] → writes_of (marked r locked) ≡ []
  lock_nothing e = none (writes_of (marked r locked)) (lock_bytes ∙ ap bus_bytes e)
    where
      none : (bs : List Burst) → bus_bytes bs ≡ 0 → bs ≡ []
      none [] q = refl
      none (b ∷ bs) q = absurd (omega arith)

-- ---- the marks of a sound record

-- a locked one has that mark,
pub locked_is : (r : Record) → Sound r → is_locked r.header ≡ true → r ≡ marked r locked
unfolding is_locked
locked_is r s e = ap (marked r) (let q = eqb-true (r.header.marks % 2) 1 e in omega (arith, s.marks.most))

-- and any other none
pub free_is : (r : Record) → Sound r → is_locked r.header ≡ false → r ≡ marked r free
unfolding is_locked
free_is r s e = ap (marked r) (let q = eqb-false (r.header.marks % 2) 1 e in omega (arith, s.marks.most))

-- so what a locked record sends is as long as what it would send without its lock
pub locked_sends : (r : Record) → Sound r → is_locked r.header ≡ true → bus_bytes (writes_of r) ≡ bus_bytes (writes_of (marked r free))
locked_sends r s e = ap (λ (x : Record). bus_bytes (writes_of x)) (locked_is r s e) ∙ lock_bytes r s.settings (s.marks.trims e)

-- "for an unlocked record the old reading holds": the list is that of document 01, by the member's writable addresses
pub free_sends : (r : Record) → is_locked r.header ≡ false → writes_of r ≡ update_for (writable_of r.header.member) 908 r.settings (chip_view r)
unfolding writes_of update_for
free_sends r e =
    ap (λ (ws : List Write). update_by (on_by (value_at r.settings)) (chip_view r).sure (chip_view r).perhaps (map (data_of r.settings) ws))
    (plan_same (marks_of r) (marks_for (writable_of r.header.member) (chip_view r).same) 908 (λ a l. alike a))
  where
    alike : (a : ℕ) → marks_of r a ≡ marks_for (writable_of r.header.member) (chip_view r).same a
    alike zero = refl
    alike (suc a) = ap (λ (b : Bool). mark_at b ((chip_view r).same (suc a))) (free_write r.header e (suc a))
