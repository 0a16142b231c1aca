-- What the code sees of an address and what its mark is, and how far the write goes that has come to e.
-- Assumes nothing.
use mathlib.Core.Path.{◌≡◌, refl, sym, ap₂, subst, ◌∙◌}
use mathlib.Core.Logic.{inl, inr}
use mathlib.Core.Bool.{Bool, true, false, not, and-true, false≢true, true≢false}
use mathlib.Core.List.{List}
use Prim.Native.Nat.{ℕ, zero, suc, ◌+◌, ◌-◌, ◌≤◌, ◌<◌}
use native.Mathlib.Decide.{dec_lt, ℕ_discrete}
use native.Mathlib.Omega.{arith}
use borrow.Author.Tests.{le-leb, lt-leb, eq-eqb, ne_eqb, eqb-true}
use lib.Dec.{eqb, ltb}
use lib.ListN.{get_or}
use Rattle.map.specs.declared.kinds.Kind.{Kind}
use Rattle.map.specs.Map.{lines_of, columns_of, kind_of, reserved_as, reserved_of, writable_of}
use Rattle.map.specs.ByteLaws.{writable_below}
use Rattle.plan.specs.Plan.{Mark, hole, clean, dirty}
use Rattle.plan.specs.Update.{mark_at}
use Rattle.plan.proofs.UpdateLaws.{marks_at_lem}
use Rattle.plan.specs.NextLaws.{Quiet, Closed, Extends, extends_more, extends_over, extends_all}
use Rattle.host.specs.declared.Header.{Header}
use Rattle.host.specs.Record.{record_of, lock_keeps, may_write}
use Rattle.host.specs.RecordLaws.{not_writable}
use Rattle.writes.specs.Marks.{chip_view, marks_of, Whole}
use Rattle.writes.specs.Found.{differs_at, NoneDiffers, Near, Agree, FirstDiffering, DifferTo, WriteEnd, NextWrite}

-- what `member_may_write` finds, from the member's lines and columns at hand
pub taken : (h : Header) (n cs a : ℕ) (k : Kind) (x : ℕ) → n ≡ lines_of h.member → cs ≡ columns_of h.member → k ≡ kind_of a →
    x ≡ reserved_as k h.member n cs a → lock_keeps h a ≡ false → ltb x 255 ≡ may_write h a
unfolding may_write writable_of reserved_of
taken h n cs a k x en ec ek ex free = rw (ex, ek, en, ec, free) (sym (and-true (ltb (reserved_as (kind_of a) h.member (lines_of h.member) (columns_of h.member) a) 255)))

-- ---- what `differs` says

module _ (settings image : List ℕ) where
  pub differ_below : (a : ℕ) → differs_at settings image a ≡ true → a < 908
  unfolding differs_at
  differ_below a e = go (dec_lt a 908)
    where
      go : Dec (a < 908) → a < 908
      go (yes l) = l
      go (no n) = absurd (false≢true (rw (le-leb 908 a (omega arith)) at e))

  differ_bytes : (a : ℕ) → differs_at settings image a ≡ true → get_or settings a 0 ≡ get_or image a 0 → ⊥
  unfolding differs_at
  differ_bytes a e q = let l = differ_below a e in false≢true (rw (lt-leb 908 a l, eq-eqb _ _ q) at e)

  same_bytes : (a : ℕ) → a < 908 → differs_at settings image a ≡ false → get_or settings a 0 ≡ get_or image a 0
  unfolding differs_at
  same_bytes a l e = eqb-true _ _ (not_false_true (eqb (get_or settings a 0) (get_or image a 0)) (rw (lt-leb 908 a l) at e))
    where
      not_false_true : (b : Bool) → not b ≡ false → b ≡ true
      not_false_true true q = refl
      not_false_true false q = absurd (true≢false q)

-- ---- an address and its mark

module _ (h : Header) (settings image : List ℕ) where
  abbrev mark : ℕ → Mark
  mark = marks_of (record_of h settings image)

  by_tests : (a : ℕ) (w e : Bool) → 0 < a → may_write h a ≡ w → eqb (get_or image a 0) (get_or settings a 0) ≡ e → mark a ≡ mark_at w e
  by_tests a w e p ew ee = marks_at_lem (may_write h) (chip_view (record_of h settings image)).same a p ∙ ap₂ mark_at ew ee

  dirty_at : (a : ℕ) → 0 < a → may_write h a ≡ true → (get_or settings a 0 ≡ get_or image a 0 → ⊥) → mark a ≡ dirty
  dirty_at a p w n = by_tests a true false p w (ne_eqb _ _ (λ e. n (sym e)))

  clean_at : (a : ℕ) → 0 < a → may_write h a ≡ true → get_or settings a 0 ≡ get_or image a 0 → mark a ≡ clean
  clean_at a p w e = by_tests a true true p w (eq-eqb _ _ (sym e))

  hole_at : (a : ℕ) → 0 < a → may_write h a ≡ false → mark a ≡ hole
  hole_at a p w = by_tests a false (eqb (get_or image a 0) (get_or settings a 0)) p w refl

  not_hole : (a : ℕ) → mark a ≡ dirty → mark a ≡ hole → ⊥
  not_hole a d c = let z : ◌≡◌ {A = ℕ} 0 1 = cc in omega arith

  not_clean : (a : ℕ) → mark a ≡ dirty → mark a ≡ clean → ⊥
  not_clean a d c = let z : ◌≡◌ {A = ℕ} 0 1 = cc in omega arith

  not_dirty : (a : ℕ) → 0 < a → get_or settings a 0 ≡ get_or image a 0 → mark a ≡ dirty → ⊥
  not_dirty a p e d = go (may_write h a) refl
    where
      go : (w : Bool) → may_write h a ≡ w → ⊥
      go true q = not_clean a d (clean_at a p q e)
      go false q = not_hole a d (hole_at a p q)

  past_hole : (a : ℕ) → 908 ≤ a → mark a ≡ hole
  past_hole a l = hole_at a (omega arith) (not_writable h a (go (writable_of h.member a) refl))
    where
      go : (w : Bool) → writable_of h.member a ≡ w → w ≡ false
      go false e = refl
      go true e = absurd (let u = writable_below h.member a e in omega arith)

  -- a dirty address lies in the map
  dirty_below : (a : ℕ) → mark a ≡ dirty → a < 908
  dirty_below a d = go (dec_lt a 908)
    where
      go : Dec (a < 908) → a < 908
      go (yes l) = l
      go (no n) = absurd (not_hole a d (past_hole a (omega arith)))

  -- ---- where a write ends

  -- a hole at k, with no dirty address from e up to it
  closed_hole : (e k : ℕ) → e ≤ k → ((a : ℕ) → e ≤ a → a ≤ k → mark a ≡ dirty → ⊥) → mark k ≡ hole → Closed mark e
  closed_hole e k l q c = record { apart = λ p u v d. inr (k, l, beyond p u d (dec_lt k p), c) }
    where
      beyond : (p : ℕ) → e ≤ p → mark p ≡ dirty → Dec (k < p) → k < p
      beyond p u d (yes x) = x
      beyond p u d (no x) = absurd (q p u (omega arith) d)

  closed_far : (e : ℕ) → ((a : ℕ) → e ≤ a → a ≤ e + 2 → mark a ≡ dirty → ⊥) → Closed mark e
  closed_far e q = record { apart = λ p u v d. inl (beyond p u d (dec_lt (e + 2) p)) }
    where
      beyond : (p : ℕ) → e ≤ p → mark p ≡ dirty → Dec (e + 2 < p) → e + 2 < p
      beyond p u d (yes x) = x
      beyond p u d (no x) = absurd (q p u (omega arith) d)

  closed_end : (e : ℕ) → 908 ≤ e → Closed mark e
  closed_end e l = closed_hole e e (omega arith) (λ a u v d. not_hole a d (past_hole a (omega arith))) (past_hole e l)

  same_not_dirty : (a : ℕ) → 0 < a → differs_at settings image a ≡ false → mark a ≡ dirty → ⊥
  same_not_dirty a p e d = not_dirty a p (same_bytes settings image a (dirty_below a d) e) d

  -- ---- where `further` finds nothing

  module _ (e : ℕ) (positive : 0 < e) (same : e < 908 → get_or settings e 0 ≡ get_or image e 0) where
    first : mark e ≡ dirty → ⊥
    first d = not_dirty e positive (same (dirty_below e d)) d

    -- no address from e up to k is dirty
    quiet_to : (k : ℕ) → NoneDiffers settings image (e + 1) k → (a : ℕ) → e ≤ a → a < k → mark a ≡ dirty → ⊥
    quiet_to k n a l u d = go (ℕ_discrete a e)
      where
        go : Dec (a ≡ e) → ⊥
        go (yes q) = first (subst (λ (x : ℕ). mark x ≡ dirty) q d)
        go (no q) = same_not_dirty a (omega arith) (n a (omega arith) u) d

    -- the next differing address is too far away,
    pub none_near : NoneDiffers settings image (e + 1) (e + 3) → Closed mark e
    none_near n = closed_far e (λ a l u d. quiet_to (e + 3) n a l (omega arith) d)

    -- or a hole lies before it
    pub hole_before : (next k : ℕ) → Near settings image e next → e ≤ k → k < next → may_write h k ≡ false → Closed mark e
    hole_before next k n l u w = closed_hole e k l (λ a p q d. quiet_to next n.none a p (omega arith) d) (hole_at k (omega arith) w)

-- and where the images differ at addresses that may be written
module _ (h : Header) (settings image : List ℕ) (whole : Whole (record_of h settings image)) where
  abbrev here : ℕ → Mark
  here = marks_of (record_of h settings image)

  differ_dirty : (a : ℕ) → 0 < a → differs_at settings image a ≡ true → here a ≡ dirty
  differ_dirty a p e =
      let n = differ_bytes settings image a e in
      dirty_at h settings image a p (whole.may a (differ_below settings image a e) n) n

  -- differing bytes one after the other
  pub differ_on : (from r : ℕ) → 0 < from → DifferTo settings image from r → Extends here from r
  differ_on from r p t =
      let z : from + (r - from) ≡ r = omega (arith, t.least) in
      subst (Extends here from) z (extends_all here from (r - from) (λ i l. sent i (omega arith)))
    where
      sent : (i : ℕ) → from + i < r → here (from + i) ≡ dirty
      sent i l =
          let n = t.differ (from + i) (omega arith) l in
          dirty_at h settings image (from + i) (omega arith) (whole.may (from + i) (omega (arith, t.most)) n) n

  -- ---- where `further` finds the next differing address

  pub joins : (e next r : ℕ) → 0 < e → (e < 908 → get_or settings e 0 ≡ get_or image e 0) → Near settings image e next →
      ((a : ℕ) → e ≤ a → a < next → may_write h a ≡ true) → DifferTo settings image (next + 1) r → Extends here e r
  joins e next r positive same n w t =
      let z : suc (e + (next - e)) ≡ next + 1 = omega (arith, n.behind) in
      let q : e + (next - e) ≡ next = omega (arith, n.behind) in
      let d : here (e + (next - e)) ≡ dirty = subst (λ (x : ℕ). here x ≡ dirty) (sym q) (differ_dirty next (omega (arith, n.behind)) n.differs) in
      extends_more here e (next + 1) r
      (subst (Extends here e) z (extends_over here e (next - e) (omega (arith, n.reach)) (λ i v. between (e + i) (omega arith) (omega arith)) d))
      (differ_on (next + 1) r (omega arith) t)
    where
      below : next < 908
      below = differ_below settings image next n.differs

      between : (a : ℕ) → e ≤ a → a < next → here a ≡ clean
      between a p v = clean_at h settings image a (omega arith) (w a p v) (go (ℕ_discrete a e))
        where
          go : Dec (a ≡ e) → get_or settings a 0 ≡ get_or image a 0
          go (yes k) = subst (λ (x : ℕ). get_or settings x 0 ≡ get_or image x 0) (sym k) (same (omega (arith, below)))
          go (no k) = same_bytes settings image a (omega (arith, below)) (n.none a (omega arith) v)

  -- ---- next_write

  quiet : (from to : ℕ) → ((a : ℕ) → from ≤ a → 0 < a → a < to → get_or settings a 0 ≡ get_or image a 0) → Quiet here from to
  quiet from to s zero l u d = let z : ◌≡◌ {A = ℕ} 0 1 = cc in omega arith
  quiet from to s (suc a) l u d = not_dirty h settings image (suc a) (omega arith) (s (suc a) l (omega arith) u) d

  module _ (from first : ℕ) (past : (a : ℕ) → from ≤ a → 0 < a → first ≤ a) where
    pub next_none : Agree settings image first 908 → Quiet here from 908
    next_none s = quiet from 908 (λ a l p u. s a (past a l p) u)

    pub next_found : (start end : ℕ) → 0 < first → FirstDiffering settings image first start → WriteEnd here (start + 1) end → NextWrite here from start end
    next_found start end p f w = record {
      quiet = quiet from start (λ a l q u. f.to.same a (past a l q) u);
      starts = dirty_at h settings image start (omega (arith, f.to.least)) (whole.may start f.below f.differs) f.differs;
      ends = let z : start + 1 ≡ suc start = omega arith in subst (λ (x : ℕ). WriteEnd here x end) z w;
    }
