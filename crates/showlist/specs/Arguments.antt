-- What the arguments ask for. w is the ASCII codes of a word.
-- Assumes nothing.
use Rattle.std.specs.Prelude.{Bool, cond, ◌&&◌, List, ℕ, leb, eqb, length, get_or, Option, None, Some}

-- `spi`
unfoldable pub is_spi : List ℕ → Bool
is_spi w = eqb (length w) 3 && (eqb (get_or w 0 0) 0x73 && (eqb (get_or w 1 0) 0x70 && eqb (get_or w 2 0) 0x69))

-- the bus of the list, by the number of words that the program was started with, its own name among them, and the second of them:
-- without an argument 0, I2C; with the one argument `spi` 1; else none
unfoldable pub bus_asked : ℕ → List ℕ → Option ℕ
bus_asked words w = cond (leb words 1) (Some 0) (cond (eqb words 2 && is_spi w) (Some 1) None)
