-- The loop that stores a list: what is left of it, and how many bytes are stored.
-- Assumes nothing.
use mathlib.Core.Path.{◌≡◌, refl, sym, ap, subst, ◌∙◌}
use mathlib.Core.Bool.{true}
use mathlib.Core.List.{List, [], ◌∷◌, map}
use Prim.Native.Nat.{ℕ, ◌+◌, ◌-◌, ◌*◌, ◌^◌, ◌≤◌, ◌<◌}
use native.Mathlib.Nat.{sub-zero}
use native.Mathlib.Omega.{arith}
use borrow.Author.Tests.{leb-true}
use lib.Dec.{leb}
use lib.ListN.{length, get_or, take, drop, length-drop}
use lib.Seq.{sets, length-take-le}
use Rattle.burst.specs.Burst.{Burst, size16, n_of, lengths_from, lengths, cut_from, transactions, sum, all_at_least3, head_address, burst_of, data_bytes}
use Rattle.burst.specs.BurstLaws.{and_left, and_right, size_small, lengths_none, lengths_step, head_address_small}
use Rattle.burst.specs.PlaceLaws.{burst_at}
use Rattle.burst.specs.FrontLaws.{LeadsWithList}
use Rattle.plan.specs.Update.{store_all}
use Rattle.writes.specs.Stored.{Within, AllWithin}

-- an address that a head names
pub address_small : (bus h0 h1 a : ℕ) → a ≡ head_address bus h0 h1 → a < 1024
address_small bus h0 h1 a e = omega (arith, head_address_small bus h0 h1)

-- ---- one transaction, of k bytes at q

module _ (bus q k : ℕ) (l image : List ℕ) (three : 3 ≤ k) (inside : q + k ≤ length l) (a : ℕ) (ea : a ≡ head_address bus (get_or l q 0) (get_or l (q + 1) 0)) where
  abbrev b : Burst
  b = burst_of bus (take k (drop q l))

  data_size : length b.bytes ≡ k - 2
  data_size = ap (λ (x : Burst). length x.bytes) (burst_at q k l three bus) ∙ length-take-le (k - 2) (drop (q + 2) l) (omega (arith, length-drop (q + 2) l))

  pub one_within : Within (length image) b → a + (k - 2) ≤ length image
  one_within w = omega (arith, data_size, ap (λ (x : Burst). x.start) (burst_at q k l three bus))

  pub one_counted : (r : ℕ) → r ≡ k - 2 → r ≡ length b.bytes
  one_counted r e = e ∙ sym data_size

  pub one_stored : (new : List ℕ) → new ≡ sets image a (take (k - 2) (drop (q + 2) l)) → new ≡ sets image b.start b.bytes
  one_stored new e = e ∙ rw (burst_at q k l three bus, ea) refl

-- ---- all of them

module _ (bus : ℕ) (old l : List ℕ) where
  -- the writes from a place on
  abbrev writes : ℕ → List ℕ → List Burst
  writes from ks = map (burst_of bus) (cut_from l from ks)

  abbrev all : List Burst
  all = map (burst_of bus) (transactions l)

  -- those of the lengths ks are left, from `from` on
  pub record Left (ks image : List ℕ) (stored from : ℕ) : Type 0 where
    pub least : all_at_least3 ks ≡ true
    pub inside : from + sum ks ≤ length l
    pub within : AllWithin (length old) (writes from ks)
    pub stores : store_all (writes from ks) image ≡ store_all all old
    pub counts : stored + data_bytes (writes from ks) ≡ data_bytes all

  -- i of n transactions are stored, and the next one is at `from`
  pub record Storing (n : ℕ) (image : List ℕ) (stored from i : ℕ) : Type 0 where
    pub few : n < 65536
    pub below : i ≤ n
    pub same : length image ≡ length old
    pub place : from ≤ 4 + 2 * n + 65535 * i
    pub most : stored ≤ 65535 * i
    pub left : LeadsWithList l → AllWithin (length old) all → Left (lengths_from l (4 + 2 * i) (n - i)) image stored from

  pub storing_none : (n : ℕ) → n ≡ size16 l 0 → Storing n old 0 (4 + 2 * n) 0
  unfolding n_of lengths transactions
  storing_none n e = record {
    few = omega (arith, size_small l 0);
    below = omega arith;
    same = refl;
    place = omega arith;
    most = omega arith;
    left = λ g w. subst (λ (k : ℕ). Left (lengths_from l 4 k) old 0 (4 + 2 * n)) (sym (sub-zero n))
        (subst (λ (k : ℕ). Left (lengths_from l 4 k) old 0 (4 + 2 * k)) (sym e)
        (record { least = g.least; inside = g.inside; within = w; stores = refl; counts = omega arith }));
  }

  module _ (n : ℕ) (image : List ℕ) (stored from i : ℕ) (s : Storing n image stored from i) (h : i < n) (k : ℕ) (e : k ≡ size16 l (4 + 2 * i)) where
    pub place_small : from < 2 ^ 33
    place_small = omega (arith, s.few, s.place)

    pub size_most : k ≤ 65535
    size_most = omega (arith, size_small l (4 + 2 * i))

    abbrev next : Burst
    next = burst_of bus (take k (drop from l))

    abbrev ks : List ℕ
    ks = lengths_from l (4 + 2 * (i + 1)) (n - (i + 1))

    step : LeadsWithList l → AllWithin (length old) all → Left (k ∷ ks) image stored from
    step g w = subst (λ (x : List ℕ). Left x image stored from) (lengths_step l n i h ∙ ap (λ (x : ℕ). x ∷ ks) (sym e)) (s.left g w)

    pub storing_more : (new : List ℕ) (r : ℕ) → length new ≡ length image → r ≤ k →
        (3 ≤ k → from + k ≤ length l → Within (length image) next → (r ≡ length next.bytes) × (new ≡ sets image next.start next.bytes)) →
        Storing n new (stored + r) (from + k) (i + 1)
    unfolding cut_from
    storing_more new r size rk is = record {
      few = s.few;
      below = omega arith;
      same = size ∙ s.same;
      place = omega (arith, s.place, size_most);
      most = omega (arith, s.most, size_most);
      left = λ g w.
          let now = step g w in
          let three : 3 ≤ k = leb-true 3 k (and_left (leb 3 k) (all_at_least3 ks) now.least) in
          let inside : from + k ≤ length l = omega (arith, now.inside) in
          let one = is three inside (subst (λ (x : ℕ). Within x next) (sym s.same) now.within.0) in
          record {
            least = and_right (leb 3 k) (all_at_least3 ks) now.least;
            inside = omega (arith, now.inside);
            within = now.within.1;
            stores = ap (store_all (writes (from + k) ks)) one.1 ∙ now.stores;
            counts = omega (arith, now.counts, one.0);
          };
    }

  module _ (n : ℕ) (image : List ℕ) (stored from i : ℕ) (s : Storing n image stored from i) (h : n ≤ i) where
    done : LeadsWithList l → AllWithin (length old) all → Left [] image stored from
    done g w =
        let none : n - i ≡ 0 = omega arith in
        subst (λ (x : List ℕ). Left x image stored from) (ap (lengths_from l (4 + 2 * i)) none ∙ lengths_none l (4 + 2 * i)) (s.left g w)

    pub all_stored : LeadsWithList l → AllWithin (length old) all → (stored ≡ data_bytes all) × (image ≡ store_all all old)
    unfolding cut_from
    all_stored g w = (omega (arith, (done g w).counts), (done g w).stores)
