-- Which chips hear the list of a round, and who stands at a place, computed.
-- Assumes nothing.
use Rattle.std.specs.Prelude.{◌≡◌, refl, true, false, [], ◌∷◌, map}
use Rattle.chip.specs.Chip.{chip_of}
use Rattle.history.specs.declared.World.{World}
use Rattle.bus.specs.Bus.{on_bus, world_at}

-- "up to four I2C chips with different pins": one with pins 2 hangs on the bus at place 2
own_pins : map (on_bus (chip_of 0 0 2 [])) (0 ∷ 1 ∷ 2 ∷ 3 ∷ []) ≡ false ∷ false ∷ true ∷ false ∷ []
own_pins = refl

-- a chip on SPI hangs on other wires
spi_apart : map (on_bus (chip_of 0 1 0 [])) (0 ∷ 1 ∷ 2 ∷ 3 ∷ []) ≡ false ∷ false ∷ false ∷ false ∷ []
spi_apart = refl

-- a number above 3 names the last place
last_world : (a b c d : World) → world_at (a ∷ b ∷ c ∷ d ∷ []) 7 ≡ d
last_world a b c d = refl
