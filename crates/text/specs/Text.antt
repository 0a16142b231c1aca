-- Numbers and bytes as text, and text put at a place of a buffer. Text is a list of ASCII codes: 0 to 9 are 30h to 39h, A to F are
-- 41h to 46h. Every definition is total: a byte that has no place in the buffer is dropped.
-- Assumes nothing.
use Rattle.std.specs.Prelude.{◌≡◌, true, false, cond, List, [], ◌∷◌, ◌++◌, ℕ, zero, suc, ◌+◌, ◌/◌, ◌%◌, ltb, eqb, length, set}

-- ---- Text at a place of a buffer

-- the place behind a byte that is put at a place of a buffer of `len` bytes: behind the end nothing is put
unfoldable pub next_place : ℕ → ℕ → ℕ
next_place len at = cond (ltb at len) (suc at) at

-- the buffer with a text at a place
unfoldable pub placed : List ℕ → ℕ → List ℕ → List ℕ
placed buffer at [] = buffer
placed buffer at (x ∷ xs) = placed (set buffer at x) (next_place (length buffer) at) xs

-- the place behind the text
unfoldable pub place_after : ℕ → ℕ → List ℕ → ℕ
place_after len at [] = at
place_after len at (x ∷ xs) = place_after len (next_place len at) xs

-- what every function promises that puts a text at a place of `old`, leaves `new` and answers r
pub record Puts (old : List ℕ) (at : ℕ) (text new : List ℕ) (r : ℕ) : Type 0 where
  pub buffer : new ≡ placed old at text
  pub place : r ≡ place_after (length old) at text

-- a function that puts one thing, with what a call of it may do (`post`), puts the text that `shape` has of it
abbrev pub PutsOne : {Buffer A : Type 0} → (Buffer → ℕ → A → ℕ → Buffer → Type 0) → (Buffer → List ℕ) → (A → List ℕ) → Type 0
PutsOne {Buffer} {A} post bytes shape = (old : Buffer) (at : ℕ) (x : A) (r : ℕ) (new : Buffer) → post old at x r new → Puts (bytes old) at (shape x) (bytes new) r

-- ---- Numbers

-- the last hexadecimal digit of a number, with capitals
unfoldable pub digit : ℕ → ℕ
digit v = cond (ltb (v % 16) 10) (0x30 + v % 16) (0x37 + v % 16)

-- a byte as two digits
unfoldable pub byte_text : ℕ → List ℕ
byte_text v = digit (v / 16) ∷ digit v ∷ []

-- an address: the last three digits
unfoldable pub address_text : ℕ → List ℕ
address_text a = digit (a / 256) ∷ byte_text (a % 256)

-- the last k + 1 decimal digits of a number, without zeros in front
unfoldable pub decimal_up_to : ℕ → ℕ → List ℕ
decimal_up_to zero v = digit (v % 10) ∷ []
decimal_up_to (suc k) v = elim (ltb v 10) [ true ↦ digit v ∷ [] | false ↦ decimal_up_to k (v / 10) ++ (digit (v % 10) ∷ []) ]

-- a number in decimal; it has no more digits than its own value and one (TextLaws has the two equations that a reader expects)
unfoldable pub decimal_text : ℕ → List ℕ
decimal_text v = decimal_up_to v v

-- ---- Byte strings

-- the text of each, one behind the other
unfoldable pub each_text : {A : Type 0} → (A → List ℕ) → List A → List ℕ
each_text f [] = []
each_text f (v ∷ vs) = f v ++ each_text f vs

-- a byte after a space
unfoldable pub spaced_text : ℕ → List ℕ
spaced_text v = 0x20 ∷ byte_text v

-- each byte after a space
unfoldable pub spaced_bytes_text : List ℕ → List ℕ
spaced_bytes_text vs = each_text spaced_text vs

-- the bytes with nothing between; `-` where there is none
unfoldable pub bytes_text : List ℕ → List ℕ
bytes_text vs = cond (eqb (length vs) 0) (0x2D ∷ []) (each_text byte_text vs)
