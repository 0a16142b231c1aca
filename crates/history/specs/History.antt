-- A call of a history, and the world that the first one gets: document 01, "The ledger and whole lists". Lists of them, and the claim about
-- whole lists, stand in the crate demand.
-- Assumes nothing.
use Rattle.std.specs.Prelude.{List, ℕ}
use Rattle.calls.specs.declared.Request.{Request}
use Rattle.host.specs.Record.{open_of}
use Rattle.chip.specs.Chip.{at_reset_of}
use Rattle.history.specs.declared.World.{World}

-- "each with any arguments and with bytes or a buffer of its own."
pub record Call : Type 0 where
  pub request : Request
  pub lent : List ℕ

-- "The first gets the record of an accepted Open," and a chip of the same member, bus and pins at reset values;
abbrev pub start : ℕ → ℕ → ℕ → World
start m b p = record { host = (open_of m b p).host; chip = (at_reset_of m b p).chip }
