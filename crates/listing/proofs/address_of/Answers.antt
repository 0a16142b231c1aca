-- `listing::address_of` meets its contract.
-- Assumes nothing.
use mathlib.Core.Path.{ap, ◌∙◌}
use Rattle.std.specs.Prelude.{ℕ}
use Rattle.burst.specs.Burst.{head_address}
use Rattle.listing.proofs.Steps.{address_by_bus}
use Rattle.listing.proofs.address_of.Goals as goal

pub returns : goal.returns
returns c =
    c.head_address.ensures ∙ ap (λ (bus : ℕ). head_address bus c.args.h0 c.args.h1) c.from.ensures
    ∙ address_by_bus c.args.bus c.args.h0 c.args.h1
