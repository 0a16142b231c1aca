-- Byte strings at the front of a buffer.
-- Assumes nothing.
use mathlib.Core.Path.{◌≡◌, ap, ◌∙◌}
use mathlib.Core.List.{List, [], ◌∷◌}
use Prim.Native.Nat.{ℕ, zero, suc, ◌+◌, ◌*◌, ◌≤◌}
use native.Mathlib.Omega.{arith}
use lib.ListN.{length, take, drop, length-take, length-drop}
use Rattle.text.specs.Text.{Puts, place_after}
use Rattle.text.specs.TextLaws.{after_room, placed_room}
use Rattle.script.specs.Words.{length_to, first_word, behind, word_at}
use Rattle.script.specs.Bytes.{bytes_of}

-- bytes that have room stand whole at the front
pub whole : (old bytes new : List ℕ) (r : ℕ) → length bytes ≤ length old → Puts old 0 bytes new r → (r ≡ length bytes) × (take r new ≡ bytes)
whole old bytes new r h p =
    let all : place_after (length old) 0 bytes ≡ 0 + length bytes = after_room (length old) 0 bytes (omega arith) in
    let place : r ≡ length bytes = p.place ∙ all ∙ omega arith in
    let none : 0 + length bytes ≡ length bytes = omega arith in
    (place, rw (place, p.buffer) (rw none at (placed_room old 0 bytes (omega arith))))

pairs_length : (k : ℕ) (w : List ℕ) → length w ≤ k → 2 * length (bytes_of w) ≤ length w
unfolding bytes_of
pairs_length k [] h = omega arith
pairs_length k (x ∷ []) h = omega arith
pairs_length (suc k) (x ∷ (y ∷ w)) h = let rest = pairs_length k w (omega arith) in omega (arith, rest)
pairs_length zero (x ∷ (y ∷ w)) h = absurd (omega arith)

word_least : (n : ℕ) (l : List ℕ) → length (word_at l n) ≤ length l
unfolding word_at first_word behind
word_least zero l = omega (arith, length-take (length_to 0x20 l) l)
word_least (suc n) l = let rest = word_least n (drop (suc (length_to 0x20 l)) l) in omega (arith, rest, length-drop (suc (length_to 0x20 l)) l)

-- the bytes of a word of a line
pub decoded : (l old new w : List ℕ) (n r : ℕ) → length l ≤ 8192 → 4096 ≤ length old → w ≡ word_at l n → Puts old 0 (bytes_of w) new r →
    (r ≤ 4096) × (take r new ≡ bytes_of (word_at l n))
decoded l old new w n r hl ho e p =
    let room : length (bytes_of w) ≤ 4096 = omega (arith, pairs_length (length w) w (omega arith), word_least n l, ap length e) in
    let d = whole old (bytes_of w) new r (omega arith) p in
    (omega (arith, d.0), d.1 ∙ ap bytes_of e)
