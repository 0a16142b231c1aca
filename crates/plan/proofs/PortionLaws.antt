-- Laws of portions: they fit, they are the longest beginnings that do, and what holds of a list of writes holds of its beginnings.
-- Assumes nothing.
use Rattle.std.specs.Prelude.{◌≡◌, refl, ◌⊎◌, Bool, true, false, List, [], ◌∷◌, map, ℕ, ◌+◌, ◌-◌, ◌≤◌, ◌<◌, leb, get_or, take}
use Rattle.std.proofs.Common.{sym, ap, ap₂, ◌∙◌, subst, inl, inr, arith, leb-true, leb-false, le-leb, length-take-le, get_or-take, take-take}
use Rattle.std.proofs.Math.Decide.{ℕ_discrete, dec_lt}
use Rattle.std.proofs.lemmas.Bool.{lt-leb}
use Rattle.std.proofs.Math.ListN.{length}
use Rattle.std.proofs.lemmas.List.Edits.{sets}
use Rattle.burst.specs.Burst.{Burst, bus_bytes}
use Rattle.plan.specs.Lists.{All}
use Rattle.plan.specs.Writes.{Good, AllGood}
use Rattle.plan.specs.Update.{value_at, on_by, write_of}
use Rattle.plan.proofs.UpdateLaws.{Fitting}
use Rattle.plan.proofs.Heard.{Hears, Heard}
use Rattle.plan.specs.Portion.{cut_to, portion, Cut, Begins}

-- ---- The three cases of a portion

module _ (k : ℕ) (b : Burst) (bs : List Burst) where
  pub portion_whole : 2 + length b.bytes ≤ k → portion k (b ∷ bs) ≡ b ∷ portion (k - (2 + length b.bytes)) bs
  unfolding portion
  portion_whole h = rw (le-leb (2 + length b.bytes) k h, portion)

  pub portion_cut : k < 2 + length b.bytes → 3 ≤ k → portion k (b ∷ bs) ≡ cut_to (k - 2) b ∷ []
  unfolding portion
  portion_cut h l = rw (lt-leb (2 + length b.bytes) k h, portion) (rw (le-leb 3 k l))

  pub portion_none : k < 2 + length b.bytes → k < 3 → portion k (b ∷ bs) ≡ []
  unfolding portion
  portion_none h l = rw (lt-leb (2 + length b.bytes) k h, portion) (rw (lt-leb 3 k l))

pub portion_empty : (k : ℕ) → portion k [] ≡ []
unfolding portion
portion_empty k = refl

data Case (k : ℕ) (b : Burst) : Type 0 where
  whole : 2 + length b.bytes ≤ k → Case k b
  part : k < 2 + length b.bytes → 3 ≤ k → Case k b
  nothing : k < 2 + length b.bytes → k < 3 → Case k b

case_of : (k : ℕ) (b : Burst) → Case k b
case_of k b = go (leb (2 + length b.bytes) k) refl (leb 3 k) refl
  where
    go : (x : Bool) → leb (2 + length b.bytes) k ≡ x → (y : Bool) → leb 3 k ≡ y → Case k b
    go true e y f = whole (leb-true (2 + length b.bytes) k e)
    go false e true f = part (leb-false (2 + length b.bytes) k e) (leb-true 3 k f)
    go false e false f = nothing (leb-false (2 + length b.bytes) k e) (leb-false 3 k f)

-- ---- Cut writes

cut_length : (k : ℕ) (b : Burst) → k ≤ length b.bytes → length (cut_to k b).bytes ≡ k
cut_length k b h = length-take-le k b.bytes h

pub cut_to_lem : (k : ℕ) (b : Burst) → 0 < k → k < length b.bytes → Cut (cut_to k b) b
cut_to_lem k b z h = record {
  start = refl;
  some = omega (arith, cut_length k b (omega arith));
  fewer = omega (arith, cut_length k b (omega arith));
  bytes = ap (λ (j : ℕ). take j b.bytes) (sym (cut_length k b (omega arith)));
}

-- a cut write has the data of the whole one
pub cut_at : (x b : Burst) → Cut x b → (i : ℕ) → i < length x.bytes → get_or x.bytes i 0 ≡ get_or b.bytes i 0
cut_at x b c i h = ap (λ (l : List ℕ). get_or l i 0) c.bytes ∙ get_or-take (length x.bytes) b.bytes i 0 h

-- ---- Laws

-- It fits.
pub portion_bytes : (k : ℕ) (bs : List Burst) → bus_bytes (portion k bs) ≤ k
unfolding portion
portion_bytes k [] = omega arith
portion_bytes k (b ∷ bs) = go (portion_bytes (k - (2 + length b.bytes)) bs) (case_of k b)
  where
    go : bus_bytes (portion (k - (2 + length b.bytes)) bs) ≤ k - (2 + length b.bytes) → Case k b → bus_bytes (portion k (b ∷ bs)) ≤ k
    go r (whole h) = rw (portion_whole k b bs h) (omega arith)
    go r (part h l) = rw (portion_cut k b bs h l) (omega (arith, cut_length (k - 2) b (omega arith)))
    go r (nothing h l) = rw (portion_none k b bs h l) (omega arith)

-- It is a beginning.
pub portion_begins : (k : ℕ) (bs : List Burst) → Begins (portion k bs) bs
unfolding portion
portion_begins k [] = tt
portion_begins k (b ∷ bs) = go (portion_begins (k - (2 + length b.bytes)) bs) (case_of k b)
  where
    go : Begins (portion (k - (2 + length b.bytes)) bs) bs → Case k b → Begins (portion k (b ∷ bs)) (b ∷ bs)
    go r (whole h) = rw (portion_whole k b bs h) (inl (refl, r))
    go r (part h l) = rw (portion_cut k b bs h l) (inr (cut_to_lem (k - 2) b (omega arith) (omega arith), refl))
    go r (nothing h l) = rw (portion_none k b bs h l) tt

pub begins_bytes : (xs bs : List Burst) → Begins xs bs → bus_bytes xs ≤ bus_bytes bs
begins_bytes [] bs g = omega arith
begins_bytes (x ∷ xs) [] g = absurd g
begins_bytes (x ∷ xs) (b ∷ bs) (inl g) = omega (arith, ap (λ (z : Burst). length z.bytes) g.0, begins_bytes xs bs g.1)
begins_bytes (x ∷ xs) (b ∷ bs) (inr g) = omega (arith, g.0.fewer, ap bus_bytes g.1)

-- It is the longest: every beginning that fits is a beginning of it.
pub portion_longest : (k : ℕ) (xs bs : List Burst) → Begins xs bs → bus_bytes xs ≤ k → Begins xs (portion k bs)
portion_longest k [] bs g h = tt
portion_longest k (x ∷ xs) [] g h = absurd g
portion_longest k (x ∷ xs) (b ∷ bs) (inl g) h =
    let e = ap (λ (z : Burst). length z.bytes) g.0 in
    rw (portion_whole k b bs (omega arith)) (inl (g.0, portion_longest (k - (2 + length b.bytes)) xs bs g.1 (omega arith)))
portion_longest k (x ∷ xs) (b ∷ bs) (inr g) h = go (case_of k b)
  where
    short : length x.bytes ≤ k - 2
    short = omega (arith, g.0.some)

    same : length x.bytes ≡ k - 2 → x ≡ cut_to (k - 2) b
    same e = ap₂ (λ (a : ℕ) (l : List ℕ). record { start = a; bytes = l }) g.0.start (g.0.bytes ∙ ap (λ (j : ℕ). take j b.bytes) e)

    at : k < 2 + length b.bytes → Dec (length x.bytes ≡ k - 2) → Begins (x ∷ xs) (cut_to (k - 2) b ∷ [])
    at l (yes e) = inl (same e, subst (λ (z : List Burst). Begins z []) (sym g.1) tt)
    at l (no e) =
        inr (
          record {
            start = g.0.start;
            some = g.0.some;
            fewer = omega (arith, short, cut_length (k - 2) b (omega arith));
            bytes = g.0.bytes ∙ sym (take-take (length x.bytes) (k - 2) b.bytes short);
          },
          g.1,
        )

    go : Case k b → Begins (x ∷ xs) (portion k (b ∷ bs))
    go (whole l) = rw (portion_whole k b bs l) (inr g)
    go (nothing l m) = absurd (omega (arith, g.0.some))
    go (part l m) = rw (portion_cut k b bs l m) (at l (ℕ_discrete (length x.bytes) (k - 2)))

-- So "any longer beginning" does not fit.
pub portion_longer : (k : ℕ) (xs bs : List Burst) → Begins xs bs → bus_bytes (portion k bs) < bus_bytes xs → k < bus_bytes xs
portion_longer k xs bs g h = go (dec_lt k (bus_bytes xs))
  where
    go : Dec (k < bus_bytes xs) → k < bus_bytes xs
    go (yes l) = l
    go (no l) = absurd (omega (arith, begins_bytes xs (portion k bs) (portion_longest k xs bs g (omega arith))))

-- With more room it only gets longer.
pub portion_more : (k j : ℕ) (bs : List Burst) → bus_bytes (portion k bs) ≤ j → Begins (portion k bs) (portion j bs)
portion_more k j bs h = portion_longest j (portion k bs) bs (portion_begins k bs) h

-- a whole list begins itself
pub begins_whole : (bs : List Burst) → Begins bs bs
begins_whole [] = tt
begins_whole (b ∷ bs) = inl (refl, begins_whole bs)

-- Its own bytes are room enough for it.
pub portion_again : (k : ℕ) (bs : List Burst) → portion (bus_bytes (portion k bs)) bs ≡ portion k bs
unfolding portion
portion_again k [] = refl
portion_again k (b ∷ bs) = go (portion_again (k - (2 + length b.bytes)) bs) (case_of k b)
  where
    rest : List Burst
    rest = portion (k - (2 + length b.bytes)) bs

    go : portion (bus_bytes rest) bs ≡ rest → Case k b → portion (bus_bytes (portion k (b ∷ bs))) (b ∷ bs) ≡ portion k (b ∷ bs)
    go r (whole h) =
        let left : 2 + length b.bytes + bus_bytes rest - (2 + length b.bytes) ≡ bus_bytes rest = omega arith in
        rw (portion_whole k b bs h)
        (portion_whole (2 + length b.bytes + bus_bytes rest) b bs (omega arith)
        ∙ ap (λ (xs : List Burst). b ∷ xs) (ap (λ (j : ℕ). portion j bs) left ∙ r))
    go r (part h l) =
        let same : bus_bytes (cut_to (k - 2) b ∷ []) ≡ k = omega (arith, cut_length (k - 2) b (omega arith)) in
        ap (λ (xs : List Burst). portion (bus_bytes xs) (b ∷ bs)) (portion_cut k b bs h l) ∙ ap (λ (j : ℕ). portion j (b ∷ bs)) same
    go r (nothing h l) = rw (portion_none k b bs h l) (portion_none 0 b bs (omega arith) (omega arith))

-- Three bytes are enough for a first data byte.
pub record First (b : Burst) (xs : List Burst) : Type 0 where
  pub first : Burst
  pub rest : List Burst
  pub is : xs ≡ first ∷ rest
  pub start : first.start ≡ b.start
  pub some : 0 < length first.bytes

pub portion_first : (k : ℕ) (b : Burst) (bs : List Burst) → 0 < length b.bytes → 3 ≤ k → First b (portion k (b ∷ bs))
portion_first k b bs z h = go (case_of k b)
  where
    go : Case k b → First b (portion k (b ∷ bs))
    go (whole l) = record { first = b; rest = portion (k - (2 + length b.bytes)) bs; is = portion_whole k b bs l; start = refl; some = z }
    go (part l m) = record {
      first = cut_to (k - 2) b;
      rest = [];
      is = portion_cut k b bs l m;
      start = refl;
      some = omega (arith, cut_length (k - 2) b (omega arith));
    }
    go (nothing l m) = absurd (omega arith)

-- What holds of each write, and of a cut one if of the whole one, holds of each write of a beginning.
pub begins_all : (P : Burst → Type 0) → ((x b : Burst) → Cut x b → P b → P x) → (xs bs : List Burst) → Begins xs bs → All P bs → All P xs
begins_all P f [] bs g h = tt
begins_all P f (x ∷ xs) [] g h = absurd g
begins_all P f (x ∷ xs) (b ∷ bs) (inl g) h = (subst P (sym g.0) h.0, begins_all P f xs bs g.1 h.1)
begins_all P f (x ∷ xs) (b ∷ bs) (inr g) h = (f x b g.0 h.0, subst (All P) (sym g.1) tt)

-- So for data bytes for writable addresses.
pub cut_good : (ok : ℕ → Bool) (n : ℕ) (x b : Burst) → Cut x b → Good ok n (write_of b) → Good ok n (write_of x)
cut_good ok n x b c g = record {
  some = c.some;
  fits = omega (arith, c.start, c.fewer, g.fits);
  each = λ a p q. g.each a (omega (arith, c.start)) (omega (arith, c.start, c.fewer));
}

pub good_each : (ok : ℕ → Bool) (n : ℕ) (bs : List Burst) → AllGood ok n (map write_of bs) → All (λ (b : Burst). Good ok n (write_of b)) bs
good_each ok n [] g = tt
good_each ok n (b ∷ bs) g = (g.0, good_each ok n bs g.1)

pub each_good : (ok : ℕ → Bool) (n : ℕ) (bs : List Burst) → All (λ (b : Burst). Good ok n (write_of b)) bs → AllGood ok n (map write_of bs)
each_good ok n [] g = tt
each_good ok n (b ∷ bs) g = (g.0, each_good ok n bs g.1)

pub begins_good : (ok : ℕ → Bool) (n : ℕ) (xs bs : List Burst) → Begins xs bs → AllGood ok n (map write_of bs) → AllGood ok n (map write_of xs)
begins_good ok n xs bs g h = each_good ok n xs (begins_all (λ b. Good ok n (write_of b)) (cut_good ok n) xs bs g (good_each ok n bs h))

-- and for data bytes that fit their addresses.
pub cut_fits : (Fit : ℕ → ℕ → Type 0) (n : ℕ) (x b : Burst) → Cut x b → Fitting Fit n b → Fitting Fit n x
cut_fits Fit n x b c f = record {
  inside = omega (arith, c.start, c.fewer, f.inside);
  fits = λ i h.
      subst (λ (a : ℕ). Fit (a + i) (get_or x.bytes i 0)) (sym c.start)
      (subst (Fit (b.start + i)) (sym (cut_at x b c i h)) (f.fits i (omega (arith, c.fewer))));
}

-- A beginning of a list that is heard is heard.
pub begins_heard : (xs bs : List Burst) (image : List ℕ) → Begins xs bs → Heard image bs → Heard image xs
begins_heard [] bs image g h = tt
begins_heard (x ∷ xs) [] image g h = absurd g
begins_heard (x ∷ xs) (b ∷ bs) image (inl g) h = (
  subst (Hears (value_at image)) (sym g.0) h.0,
  subst (λ (z : Burst). Heard (sets image z.start z.bytes) xs) (sym g.0) (begins_heard xs bs (sets image b.start b.bytes) g.1 h.1),
)
begins_heard (x ∷ xs) (b ∷ bs) image (inr g) h = (
  λ i l. subst (λ (a : ℕ). (on_by (value_at image) ≡ true) ⊎ (a + i ≡ 0)) (sym g.0.start) (h.0 i (omega (arith, g.0.fewer))),
  subst (Heard (sets image x.start x.bytes)) (sym g.1) tt,
)
