-- Lists that are put as text, one lemma for each end of the functions that put them, and for each turn of the loop over transactions.
-- Assumes nothing.
use mathlib.Core.Path.{◌≡◌, refl, sym, ap, ◌∙◌}
use mathlib.Core.List.{List, [], ◌∷◌, ◌++◌}
use Prim.Native.Nat.{ℕ, ◌+◌, ◌-◌, ◌*◌, ◌<◌, ◌≤◌}
use native.Mathlib.Nat.{sub-zero}
use native.Mathlib.Omega.{arith}
use borrow.Author.Tests.{le-leb, lt-leb}
use lib.Dec.{eqb}
use mathlib.Core.Bool.{Bool, true, false, not}
use mir.Val.{bool_byte}
use lib.ListN.{length, get_or, take, drop}
use Rattle.burst.specs.declared.sizes.Sizes.{Sizes}
use Rattle.std.specs.Prelude.{Option, None}
use Rattle.burst.specs.Burst.{size16, lengths_from, lengths, cut_from, transactions, sized, sizes_of, head_address}
use Rattle.burst.specs.PlaceLaws.{first_byte, second_byte, data_bytes_lem}
use Rattle.burst.specs.BurstLaws.{lengths_none, lengths_step, GoodSizes, sizes_good_lem, sizes_bad, Rest, rest_all, rest_first, rest_next}
use Rattle.text.specs.Text.{Puts, address_text, decimal_text, spaced_bytes_text}
use Rattle.text.specs.TextLaws.{puts_length, puts_inside, puts_then, puts_as, Putting, putting_none, putting_more, putting_all}
use Rattle.listing.specs.Show.{transaction_text, transactions_text, sizes_text, refusal_text, separated_text, shown}

-- three pieces
puts_three : (old : List ℕ) (at : ℕ) (xs mid : List ℕ) (next : ℕ) (ys late : List ℕ) (last : ℕ) (zs new : List ℕ) (r : ℕ) →
    Puts old at xs mid next → Puts mid next ys late last → Puts late last zs new r → Puts old at (xs ++ (ys ++ zs)) new r
puts_three old at xs mid next ys late last zs new r p q s =
    puts_then old at xs mid next (ys ++ zs) new r p (puts_then mid next ys late last zs new r q s)

-- ---- the sizes

pub sizes_put : (old : List ℕ) (at : ℕ) (a : List ℕ) (i : ℕ) (b : List ℕ) (j : ℕ) (new : List ℕ) (r n t : ℕ) → Puts old at (decimal_text n) a i →
    Puts a i (0x20 ∷ []) b j → Puts b j (decimal_text t) new r → Puts old at (sizes_text n t) new r
unfolding sizes_text
sizes_put old at a i b j new r n t p q s = puts_three old at (decimal_text n) a i (0x20 ∷ []) b j (decimal_text t) new r p q s

-- ---- a transaction

-- bus 0 has I2C heads, every other one SPI heads
pub address_by_bus : (bus h0 h1 : ℕ) → head_address (bool_byte (not (eqb bus 0))) h0 h1 ≡ head_address bus h0 h1
unfolding head_address
address_by_bus bus h0 h1 = go (eqb bus 0) refl
  where
    go : (b : Bool) → eqb bus 0 ≡ b → head_address (bool_byte (not b)) h0 h1 ≡ head_address bus h0 h1
    go true e = rw e refl
    go false e = rw e refl

module _ (bus q k : ℕ) (l : List ℕ) (three : 3 ≤ k) (inside : q + k ≤ length l) where
  -- the bytes behind the head of a transaction that stands at q of a list
  bytes_at : drop 2 (take k (drop q l)) ≡ take (q + k - (q + 2)) (drop (q + 2) l)
  bytes_at =
      let size : k - 2 ≡ q + k - (q + 2) = omega arith in
      data_bytes_lem q k l three ∙ ap (λ (x : ℕ). take x (drop (q + 2) l)) size

  transaction_at : (a : ℕ) → a ≡ head_address bus (get_or l q 0) (get_or l (q + 1) 0) →
      address_text a ++ spaced_bytes_text (take (q + k - (q + 2)) (drop (q + 2) l)) ≡ transaction_text bus (take k (drop q l))
  unfolding transaction_text
  transaction_at a e =
      rw (first_byte q k l three, second_byte q k l three, bytes_at, e) refl

  pub transaction_put : (separator old : List ℕ) (at : ℕ) (mid : List ℕ) (next a : ℕ) (late : List ℕ) (last : ℕ) (new : List ℕ) (r : ℕ) →
      Puts old at separator mid next → a ≡ head_address bus (get_or l q 0) (get_or l (q + 1) 0) → Puts mid next (address_text a) late last →
      Puts late last (spaced_bytes_text (take (q + k - (q + 2)) (drop (q + 2) l))) new r →
      Puts old at (separator ++ transaction_text bus (take k (drop q l))) new r
  transaction_put separator old at mid next a late last new r p e s u =
      puts_as old at _ (separator ++ transaction_text bus (take k (drop q l))) new r (ap (λ (z : List ℕ). separator ++ z) (transaction_at a e))
      (puts_three old at separator mid next (address_text a) late last (spaced_bytes_text (take (q + k - (q + 2)) (drop (q + 2) l))) new r p s u)

-- ---- the loop over transactions

module _ (separator : List ℕ) (bus : ℕ) where
  -- i transactions are put, and the next one is at `from`
  pub record Shown (old : List ℕ) (at : ℕ) (l : List ℕ) (n : ℕ) (text : List ℕ) (next from i : ℕ) : Type 0 where
    pub below : i ≤ n
    pub same : length text ≡ length old
    pub left : Rest l from (lengths_from l (4 + 2 * i) (n - i))
    pub texts :
        Putting old at (transactions_text separator bus (cut_from l (4 + 2 * n) (lengths_from l 4 n)))
        (transactions_text separator bus (cut_from l from (lengths_from l (4 + 2 * i) (n - i)))) text next

  pub shown_none : (old : List ℕ) (at : ℕ) (l : List ℕ) (n : ℕ) → Rest l (4 + 2 * n) (lengths_from l 4 n) → Shown old at l n old at (4 + 2 * n) 0
  shown_none old at l n r = record {
    below = omega arith;
    same = refl;
    left = rw sub-zero r;
    texts = rw sub-zero (putting_none old at (transactions_text separator bus (cut_from l (4 + 2 * n) (lengths_from l 4 n))));
  }

  module _ (old : List ℕ) (at : ℕ) (l : List ℕ) (n : ℕ) (text : List ℕ) (next from i : ℕ) (s : Shown old at l n text next from i) where
    whole : List ℕ
    whole = transactions_text separator bus (cut_from l (4 + 2 * n) (lengths_from l 4 n))

    module _ (k : ℕ) (h : i < n) (e : k ≡ size16 l (4 + 2 * i)) where
      ks : List ℕ
      ks = lengths_from l (4 + 2 * (i + 1)) (n - (i + 1))

      step : lengths_from l (4 + 2 * i) (n - i) ≡ k ∷ ks
      unfolding ks
      step = lengths_step l n i h ∙ ap (λ (x : ℕ). x ∷ lengths_from l (4 + 2 * (i + 1)) (n - (i + 1))) (sym e)

      next_rest : Rest l from (k ∷ ks)
      next_rest = rw step at s.left

      next_texts : Putting old at whole ((separator ++ transaction_text bus (take k (drop from l))) ++ transactions_text separator bus (cut_from l (from + k) ks)) text next
      unfolding whole transactions_text cut_from
      next_texts = rw step at s.texts

      -- what a transaction has to meet
      pub shown_next : (3 ≤ k) × (from + k ≤ length l)
      shown_next = (rest_first l from k ks next_rest, omega (arith, next_rest.size))

      pub shown_more : (new : List ℕ) (r : ℕ) → Puts text next (separator ++ transaction_text bus (take k (drop from l))) new r → Shown old at l n new r (from + k) (i + 1)
      unfolding whole ks
      shown_more new r p =
          let x = separator ++ transaction_text bus (take k (drop from l)) in
          record {
            below = omega arith;
            same = puts_length text next x new r p ∙ s.same;
            left = rest_next l from k ks next_rest;
            texts = putting_more old at whole text next x (transactions_text separator bus (cut_from l (from + k) ks)) new r next_texts p;
          }

    pub shown_all : n ≤ i → Puts old at (transactions_text separator bus (cut_from l (4 + 2 * n) (lengths_from l 4 n))) text next
    unfolding whole transactions_text cut_from
    shown_all h =
        let done : n - i ≡ 0 = omega arith in
        putting_all old at whole text next (rw (done, lengths_none l (4 + 2 * i)) at s.texts)

-- ---- the whole text

module _ (l : List ℕ) (s : Option Sizes) (read : s ≡ sizes_of l) where
  pub separates_bad : (separator : List ℕ) (bus : ℕ) (old : List ℕ) (at : ℕ) (new : List ℕ) (r : ℕ) → s ≡ None → Puts old at refusal_text new r →
      Puts old at (separated_text separator bus l) new r
  unfolding separated_text
  separates_bad separator bus old at new r b p =
      puts_as old at refusal_text (separated_text separator bus l) new r (rw (sizes_bad l (sym read ∙ b)) refl) p

  module _ (n t : ℕ) (good : s ≡ sized n t) where
    facts : GoodSizes l n t
    facts = sizes_good_lem l n t (sym read ∙ good)

    -- what the transactions have to meet
    pub transactions_asked : (n < 65536) × Rest l (4 + 2 * n) (lengths_from l 4 n)
    transactions_asked = (facts.n_small, rest_all l n t facts)

    pub separates_good : (separator : List ℕ) (bus : ℕ) (old : List ℕ) (at : ℕ) (mid : List ℕ) (next : ℕ) (new : List ℕ) (r : ℕ) →
        Puts old at (sizes_text n t) mid next → Puts mid next (transactions_text separator bus (cut_from l (4 + 2 * n) (lengths_from l 4 n))) new r →
        Puts old at (separated_text separator bus l) new r
    unfolding separated_text transactions lengths
    separates_good separator bus old at mid next new r p q =
        puts_as old at (sizes_text n t ++ transactions_text separator bus (cut_from l (4 + 2 * n) (lengths_from l 4 n))) (separated_text separator bus l) new r
        (rw (facts.good, facts.n_is, facts.t_is) refl)
        (puts_then old at (sizes_text n t) mid next _ new r p q)

-- a text from the start of a buffer, and the line's end, are what is shown, and end within the buffer
module _ (bus : ℕ) (l old mid : List ℕ) (next : ℕ) (new : List ℕ) (r : ℕ) (ended : Puts mid next (0x0A ∷ []) new r) where
  shows : (xs : List ℕ) → xs ++ (0x0A ∷ []) ≡ shown bus l → Puts old 0 xs mid next → Puts old 0 (shown bus l) new r × (r ≤ length new)
  shows xs e p =
      let both = puts_then old 0 xs mid next (0x0A ∷ []) new r p ended in
      (puts_as old 0 (xs ++ (0x0A ∷ [])) (shown bus l) new r e both, puts_inside old 0 (xs ++ (0x0A ∷ [])) new r both (omega arith))

  pub shows_long : 65536 < length l → Puts old 0 refusal_text mid next → Puts old 0 (shown bus l) new r × (r ≤ length new)
  unfolding shown
  shows_long h p = shows refusal_text (rw (lt-leb (length l) 65536 h) refl) p

  pub shows_list : length l ≤ 65536 → Puts old 0 (separated_text (0x0A ∷ []) bus l) mid next → Puts old 0 (shown bus l) new r × (r ≤ length new)
  unfolding shown
  shows_list h p = shows (separated_text (0x0A ∷ []) bus l) (rw (le-leb (length l) 65536 h) refl) p
