use Rattle.std.proofs.Common.{sym, ap, ◌∙◌, arith}
use Rattle.std.specs.Prelude.{Option, ℕ, unwrap_or}
use Rattle.burst.specs.BurstLaws.{byte_at_lem}
use Rattle.burst.proofs.sizes.byte_at.Goals as goal

pub returns : goal.returns
returns c =
    c.unwrap_or.ensures ∙ ap (λ (o : Option ℕ). unwrap_or o 0) c.copied.ensures ∙ c.get.ensures.lookup.4 (omega arith) 0
    ∙ sym (byte_at_lem _ _ (omega (arith, c.type_inv.list c.args.at)))
