-- Laws of Show.antt: what is shown, line by line; the lengths of the texts: three bytes for each byte of the transactions, and those of n
-- and t. What is shown of any list fits a buffer of 196,608 bytes, three for each byte of the longest list.
-- Assumes nothing.
use Rattle.std.specs.Prelude.{◌≡◌, refl, Bool, true, false, List, [], ◌∷◌, ◌++◌, ℕ, ◌+◌, ◌*◌, ◌≤◌, leb, length, get_or, take, drop}
use Rattle.std.proofs.Common.{sym, ap, ◌∙◌, append_assoc, arith, leb-true, le-leb, length-append, length-drop, length-take-le}
use Rattle.map.specs.declared.refusals.Refusal.TheVariants.{ListSizes}
use Rattle.map.specs.Refusals.{refusal_number}
use Rattle.burst.specs.Burst.{n_of, t_of, lengths_from, lengths, cut_from, transactions, sum, sizes_good, head_address}
use Rattle.burst.specs.BurstLaws.{good_sizes, GoodSizes, Rest, rest_all, rest_first, rest_next}
use Rattle.text.specs.Text.{address_text, decimal_text, spaced_bytes_text}
use Rattle.text.specs.TextLaws.{address_length, decimal_length, spaced_bytes_length}
use Rattle.listing.specs.Show.{transaction_text, transactions_text, sizes_text, refusal_text, separated_text, list_text, shown, line_text, lines_text}

-- ---- Line by line

-- a line's end before each transaction and behind the last is one behind each line
ends_lines : (bus : ℕ) (xs : List (List ℕ)) → transactions_text (0x0A ∷ []) bus xs ++ (0x0A ∷ []) ≡ 0x0A ∷ lines_text bus xs
unfolding transactions_text lines_text line_text
ends_lines bus [] = refl
ends_lines bus (x ∷ xs) =
    ap (λ (z : List ℕ). 0x0A ∷ z)
    (append_assoc (transaction_text bus x) (transactions_text (0x0A ∷ []) bus xs) (0x0A ∷ [])
    ∙ ap (λ (z : List ℕ). transaction_text bus x ++ z) (ends_lines bus xs)
    ∙ sym (append_assoc (transaction_text bus x) (0x0A ∷ []) (lines_text bus xs)))

-- "n and t in decimal; then a line for each transaction"
pub shown_lines : (bus : ℕ) (l : List ℕ) → length l ≤ 65536 → sizes_good l ≡ true →
    shown bus l ≡ sizes_text (n_of l) (t_of l) ++ (0x0A ∷ lines_text bus (transactions l))
unfolding shown separated_text
shown_lines bus l h e =
    rw (le-leb (length l) 65536 h, e)
    (append_assoc (sizes_text (n_of l) (t_of l)) (transactions_text (0x0A ∷ []) bus (transactions l)) (0x0A ∷ [])
    ∙ ap (λ (z : List ℕ). sizes_text (n_of l) (t_of l) ++ z) (ends_lines bus (transactions l)))

-- ---- Lengths

-- three bytes for each byte of a transaction, less three
pub transaction_length : (bus : ℕ) (x : List ℕ) → 2 ≤ length x → length (transaction_text bus x) + 3 ≡ 3 * length x
unfolding transaction_text
transaction_length bus x h =
    let a = head_address bus (get_or x 0 0) (get_or x 1 0) in
    omega (
      arith,
      length-append (address_text a) (spaced_bytes_text (drop 2 x)),
      address_length a,
      spaced_bytes_length (drop 2 x),
      length-drop 2 x,
    )

-- so with a separator of at most three bytes, three bytes for each byte
pub transactions_length : (separator : List ℕ) (bus : ℕ) (l : List ℕ) (q : ℕ) (ks : List ℕ) → length separator ≤ 3 → Rest l q ks →
    length (transactions_text separator bus (cut_from l q ks)) ≤ 3 * sum ks
unfolding transactions_text cut_from
transactions_length separator bus l q [] s r = omega arith
transactions_length separator bus l q (k ∷ ks) s r =
    let x = take k (drop q l) in
    let three : 3 ≤ k = rest_first l q k ks r in
    let size : length x ≡ k = length-take-le k (drop q l) (rw length-drop (omega (arith, r.size))) in
    omega (
      arith,
      length-append (separator ++ transaction_text bus x) (transactions_text separator bus (cut_from l (q + k) ks)),
      length-append separator (transaction_text bus x),
      transaction_length bus x (omega arith),
      transactions_length separator bus l (q + k) ks s (rest_next l q k ks r),
    )

-- a list of good sizes: the digits of n and t, a space between, and three bytes for each byte of the transactions
pub separated_length : (separator : List ℕ) (bus : ℕ) (l : List ℕ) (n t : ℕ) → length separator ≤ 3 → GoodSizes l n t →
    length (separated_text separator bus l) ≤ length (decimal_text n) + 1 + length (decimal_text t) + 3 * t
unfolding separated_text sizes_text transactions lengths
separated_length separator bus l n t s g =
    let ks = lengths_from l 4 n in
    rw (g.good, g.n_is, g.t_is)
    (omega (
      arith,
      length-append (decimal_text n ++ (0x20 ∷ decimal_text t)) (transactions_text separator bus (cut_from l (4 + 2 * n) ks)),
      length-append (decimal_text n) (0x20 ∷ decimal_text t),
      transactions_length separator bus l (4 + 2 * n) ks s (rest_all l n t g),
      g.adds,
    ))

-- n and t have at most five digits
good_most : (separator : List ℕ) (bus : ℕ) (l : List ℕ) (n t : ℕ) → length separator ≤ 3 → GoodSizes l n t → length (separated_text separator bus l) ≤ 11 + 3 * t
good_most separator bus l n t s g =
    omega (
      arith,
      separated_length separator bus l n t s g,
      decimal_length 4 n (omega (arith, g.n_small)),
      decimal_length 4 t (omega (arith, g.t_small)),
    )

refusal_length : length refusal_text ≤ 2
unfolding refusal_text
refusal_length = decimal_length 1 (refusal_number ListSizes) (omega arith)

pub separated_most : (separator : List ℕ) (bus : ℕ) (l : List ℕ) → length separator ≤ 3 → length (separated_text separator bus l) ≤ 11 + 3 * t_of l
unfolding separated_text
separated_most separator bus l s = by (sizes_good l) refl
  where
    by : (b : Bool) → sizes_good l ≡ b → length (separated_text separator bus l) ≤ 11 + 3 * t_of l
    by true e = good_most separator bus l (n_of l) (t_of l) s (good_sizes l e)
    by false e = rw e (omega (arith, refusal_length))

-- the text on one line: 3 + 3 + 3 (k - 2) bytes for a transaction of k bytes
pub list_length : (bus : ℕ) (l : List ℕ) (n t : ℕ) → GoodSizes l n t → length (list_text bus l) ≤ length (decimal_text n) + 1 + length (decimal_text t) + 3 * t
unfolding list_text
list_length bus l n t g = separated_length (0x20 ∷ 0x2F ∷ 0x20 ∷ []) bus l n t (omega arith) g

-- and that of any list
pub list_most : (bus : ℕ) (l : List ℕ) → length (list_text bus l) ≤ 11 + 3 * t_of l
unfolding list_text
list_most bus l = separated_most (0x20 ∷ 0x2F ∷ 0x20 ∷ []) bus l (omega arith)

-- no list has a text of more than three bytes for each of its own, and 11
pub list_short : (bus : ℕ) (l : List ℕ) → length (list_text bus l) ≤ 11 + 3 * length l
unfolding list_text separated_text
list_short bus l = by (sizes_good l) refl
  where
    by : (b : Bool) → sizes_good l ≡ b → length (list_text bus l) ≤ 11 + 3 * length l
    by true e = omega (arith, list_most bus l, (good_sizes l e).size)
    by false e = rw e (omega (arith, refusal_length))

pub shown_fits : (bus : ℕ) (l : List ℕ) → length (shown bus l) ≤ 196608
unfolding shown separated_text
shown_fits bus l = by (leb (length l) 65536) refl (sizes_good l) refl
  where
    by : (a : Bool) → leb (length l) 65536 ≡ a → (b : Bool) → sizes_good l ≡ b → length (shown bus l) ≤ 196608
    by false e b f = rw e (omega (arith, length-append refusal_text (0x0A ∷ []), refusal_length))
    by true e false f = rw (e, f) (omega (arith, length-append refusal_text (0x0A ∷ []), refusal_length))
    by true e true f =
        let g = good_sizes l f in
        rw e
        (omega (
          arith,
          length-append (separated_text (0x0A ∷ []) bus l) (0x0A ∷ []),
          good_most (0x0A ∷ []) bus l (n_of l) (t_of l) (omega arith) g,
          g.size,
          leb-true (length l) 65536 e,
        ))
