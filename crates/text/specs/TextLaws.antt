-- Laws of Text.antt: text that is put piece by piece is put whole, and whole it stands where there is room; the equations of a decimal
-- number; the lengths of texts.
-- Assumes nothing.
use Rattle.std.specs.Prelude.{◌≡◌, refl, Bool, true, false, cond, List, [], ◌∷◌, ◌++◌, ℕ, zero, suc, ◌+◌, ◌*◌, ◌/◌, ◌%◌, ◌^◌, ◌<◌, ◌≤◌, ltb, eqb, length, set, take}
use Rattle.std.proofs.Common.{sym, ap, ◌∙◌, append_assoc, append-nil, add-zero, mul-zero, mul-suc, pow-suc, mod-eq_of_lt, arith, lt-ltb, le-ltb, ltb-true, ltb-false, length-append, length-set, take-suc-set}
use Rattle.text.specs.Text.{next_place, placed, place_after, Puts, digit, byte_text, address_text, decimal_up_to, decimal_text, each_text, spaced_text, spaced_bytes_text, bytes_text}

-- ---- places

pub next_inside : (len at : ℕ) → at < len → next_place len at ≡ suc at
unfolding next_place
next_inside len at h = rw (lt-ltb at len h) refl

pub next_behind : (len at : ℕ) → len ≤ at → next_place len at ≡ at
unfolding next_place
next_behind len at h = rw (le-ltb at len h) refl

pub placed_length : (buffer : List ℕ) (at : ℕ) (xs : List ℕ) → length (placed buffer at xs) ≡ length buffer
unfolding placed
placed_length buffer at [] = refl
placed_length buffer at (x ∷ xs) = placed_length (set buffer at x) (next_place (length buffer) at) xs ∙ length-set buffer at x

pub placed_append : (buffer : List ℕ) (at : ℕ) (xs ys : List ℕ) →
    placed buffer at (xs ++ ys) ≡ placed (placed buffer at xs) (place_after (length buffer) at xs) ys
unfolding placed place_after
placed_append buffer at [] ys = refl
placed_append buffer at (x ∷ xs) ys =
    placed_append (set buffer at x) (next_place (length buffer) at) xs ys
    ∙ ap (λ (len : ℕ). placed (placed (set buffer at x) (next_place (length buffer) at) xs) (place_after len (next_place (length buffer) at) xs) ys) (length-set buffer at x)

pub after_append : (len at : ℕ) (xs ys : List ℕ) → place_after len at (xs ++ ys) ≡ place_after len (place_after len at xs) ys
unfolding place_after
after_append len at [] ys = refl
after_append len at (x ∷ xs) ys = after_append len (next_place len at) xs ys

-- from a place inside the buffer or at its end no text leads out of it
pub after_inside : (len at : ℕ) (xs : List ℕ) → at ≤ len → place_after len at xs ≤ len
unfolding place_after
after_inside len at [] h = h
after_inside len at (x ∷ xs) h = after_inside len (next_place len at) xs (inside (ltb at len) refl)
  where
    inside : (b : Bool) → ltb at len ≡ b → next_place len at ≤ len
    inside true e = rw (next_inside len at (ltb-true at len e)) (ltb-true at len e)
    inside false e = rw (next_behind len at (ltb-false at len e)) h

-- with room for it the text is whole: its end is its length further on
pub after_room : (len at : ℕ) (xs : List ℕ) → at + length xs ≤ len → place_after len at xs ≡ at + length xs
unfolding place_after
after_room len at [] h = sym (add-zero at)
after_room len at (x ∷ xs) h =
    rw (next_inside len at (omega arith)) (after_room len (suc at) xs (omega arith) ∙ omega arith)

-- and it stands behind what was there
pub placed_room : (buffer : List ℕ) (at : ℕ) (xs : List ℕ) → at + length xs ≤ length buffer →
    take (at + length xs) (placed buffer at xs) ≡ take at buffer ++ xs
unfolding placed
placed_room buffer at [] h = rw add-zero (sym (append-nil (take at buffer)))
placed_room buffer at (x ∷ xs) h =
    let shift : at + suc (length xs) ≡ suc at + length xs = omega arith in
    let rest = placed_room (set buffer at x) (suc at) xs (rw length-set (omega arith)) in
    rw (shift, next_inside (length buffer) at (omega arith)) rest
    ∙ ap (λ (l : List ℕ). l ++ xs) (take-suc-set buffer at x (omega arith))
    ∙ append_assoc (take at buffer) (x ∷ []) xs

-- ---- pieces

pub puts_length : (old : List ℕ) (at : ℕ) (xs new : List ℕ) (r : ℕ) → Puts old at xs new r → length new ≡ length old
puts_length old at xs new r p = ap length p.buffer ∙ placed_length old at xs

-- from a place of the buffer to a place of the buffer
pub puts_inside : (old : List ℕ) (at : ℕ) (xs new : List ℕ) (r : ℕ) → Puts old at xs new r → at ≤ length old → r ≤ length new
puts_inside old at xs new r p h = omega (arith, p.place, puts_length old at xs new r p, after_inside (length old) at xs h)

-- one piece behind the other
pub puts_then : (old : List ℕ) (at : ℕ) (xs mid : List ℕ) (next : ℕ) (ys new : List ℕ) (r : ℕ) → Puts old at xs mid next → Puts mid next ys new r →
    Puts old at (xs ++ ys) new r
puts_then old at xs mid next ys new r p q = record {
  buffer = q.buffer ∙ rw (p.buffer, p.place) refl ∙ sym (placed_append old at xs ys);
  place = q.place ∙ rw (puts_length old at xs mid next p, p.place) refl ∙ sym (after_append (length old) at xs ys);
}

pub puts_as : (old : List ℕ) (at : ℕ) (xs ys new : List ℕ) (r : ℕ) → xs ≡ ys → Puts old at xs new r → Puts old at ys new r
puts_as old at xs ys new r e p = rw e at p

-- what is left, put behind what is there, is the whole: the invariant of a loop that puts a text
pub record Putting (old : List ℕ) (at : ℕ) (whole left text : List ℕ) (next : ℕ) : Type 0 where
  pub buffer : placed text next left ≡ placed old at whole
  pub place : place_after (length text) next left ≡ place_after (length old) at whole

pub putting_none : (old : List ℕ) (at : ℕ) (whole : List ℕ) → Putting old at whole whole old at
putting_none old at whole = record { buffer = refl; place = refl }

pub putting_more : (old : List ℕ) (at : ℕ) (whole text : List ℕ) (next : ℕ) (xs left new : List ℕ) (r : ℕ) → Putting old at whole (xs ++ left) text next →
    Puts text next xs new r → Putting old at whole left new r
putting_more old at whole text next xs left new r w p = record {
  buffer = rw (p.buffer, p.place) refl ∙ sym (placed_append text next xs left) ∙ w.buffer;
  place = rw (puts_length text next xs new r p, p.place) refl ∙ sym (after_append (length text) next xs left) ∙ w.place;
}

pub putting_all : (old : List ℕ) (at : ℕ) (whole text : List ℕ) (next : ℕ) → Putting old at whole [] text next → Puts old at whole text next
unfolding placed place_after
putting_all old at whole text next w = record { buffer = w.buffer; place = w.place }

-- ---- decimal numbers

up_to_small : (k v : ℕ) → v < 10 → decimal_up_to k v ≡ digit v ∷ []
unfolding decimal_up_to
up_to_small zero v h = ap (λ (d : ℕ). digit d ∷ []) (mod-eq_of_lt h)
up_to_small (suc k) v h = rw (lt-ltb v 10 h, decimal_up_to) refl

up_to_more : (k v : ℕ) → 10 ≤ v → decimal_up_to (suc k) v ≡ decimal_up_to k (v / 10) ++ (digit (v % 10) ∷ [])
unfolding decimal_up_to
up_to_more k v h = rw (le-ltb v 10 h, decimal_up_to) refl

-- digits enough are enough
up_to_enough : (k j v : ℕ) → v ≤ k → v ≤ j → decimal_up_to k v ≡ decimal_up_to j v
up_to_enough zero j v h g = up_to_small zero v (omega arith) ∙ sym (up_to_small j v (omega arith))
up_to_enough (suc k) zero v h g = up_to_small (suc k) v (omega arith) ∙ sym (up_to_small zero v (omega arith))
up_to_enough (suc k) (suc j) v h g = by (ltb v 10) refl (up_to_enough k j (v / 10))
  where
    by : (b : Bool) → ltb v 10 ≡ b → (v / 10 ≤ k → v / 10 ≤ j → decimal_up_to k (v / 10) ≡ decimal_up_to j (v / 10)) → decimal_up_to (suc k) v ≡ decimal_up_to (suc j) v
    by true e f = up_to_small (suc k) v (ltb-true v 10 e) ∙ sym (up_to_small (suc j) v (ltb-true v 10 e))
    by false e f =
        let more : 10 ≤ v = ltb-false v 10 e in
        up_to_more k v more ∙ ap (λ (l : List ℕ). l ++ (digit (v % 10) ∷ [])) (f (omega arith) (omega arith)) ∙ sym (up_to_more j v more)

-- a number below ten is its digit
pub decimal_small : (v : ℕ) → v < 10 → decimal_text v ≡ digit v ∷ []
unfolding decimal_text
decimal_small v h = up_to_small v v h

-- any other is a tenth of it, and its last digit
pub decimal_more : (v : ℕ) → 10 ≤ v → decimal_text v ≡ decimal_text (v / 10) ++ (digit (v % 10) ∷ [])
unfolding decimal_text
decimal_more v h =
    up_to_enough v (suc v) v (omega arith) (omega arith)
    ∙ up_to_more v v h
    ∙ ap (λ (l : List ℕ). l ++ (digit (v % 10) ∷ [])) (up_to_enough v (v / 10) (v / 10) (omega arith) (omega arith))

-- ---- lengths

pub byte_length : (v : ℕ) → length (byte_text v) ≡ 2
unfolding byte_text
byte_length v = refl

pub address_length : (a : ℕ) → length (address_text a) ≡ 3
unfolding address_text byte_text
address_length a = refl

-- a number below 10 to the power of k + 1 has at most k + 1 digits
pub decimal_length : (k v : ℕ) → v < 10 ^ suc k → length (decimal_text v) ≤ suc k
decimal_length zero v h = omega (arith, ap length (decimal_small v h))
decimal_length (suc k) v h = by (ltb v 10) refl (decimal_length k (v / 10))
  where
    by : (b : Bool) → ltb v 10 ≡ b → (v / 10 < 10 ^ suc k → length (decimal_text (v / 10)) ≤ suc k) → length (decimal_text v) ≤ suc (suc k)
    by true e f = omega (arith, ap length (decimal_small v (ltb-true v 10 e)))
    by false e f =
        let tenth : length (decimal_text (v / 10)) ≤ suc k = f (omega (arith, pow-suc 10 (suc k))) in
        omega (arith, ap length (decimal_more v (ltb-false v 10 e)), length-append (decimal_text (v / 10)) (digit (v % 10) ∷ []))

each_length : (f : ℕ → List ℕ) (k : ℕ) → ((v : ℕ) → length (f v) ≡ k) → (vs : List ℕ) → length (each_text f vs) ≡ k * length vs
unfolding each_text
each_length f k h [] = sym (mul-zero k)
each_length f k h (v ∷ vs) = length-append (f v) (each_text f vs) ∙ rw (h v, each_length f k h vs) (omega (arith, mul-suc k (length vs)))

pub spaced_bytes_length : (vs : List ℕ) → length (spaced_bytes_text vs) ≡ 3 * length vs
unfolding spaced_bytes_text spaced_text byte_text
spaced_bytes_length vs = each_length spaced_text 3 (λ v. refl) vs

-- two digits for each byte, and `-` where there is none
pub bytes_length : (n : ℕ) (vs : List ℕ) → 1 ≤ n → 2 * length vs ≤ n → length (bytes_text vs) ≤ n
unfolding bytes_text
bytes_length n vs one h = go (eqb (length vs) 0)
  where
    go : (b : Bool) → length (cond b (0x2D ∷ []) (each_text byte_text vs)) ≤ n
    go true = one
    go false = omega (arith, each_length byte_text 2 byte_length vs)
