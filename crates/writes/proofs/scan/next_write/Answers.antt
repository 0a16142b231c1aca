-- `writes::scan::next_write` meets its contract.
-- Assumes nothing.
use native.Mathlib.Omega.{arith}
use Rattle.std.proofs.Common.{rules}
use mathlib.Core.Path.{◌≡◌}
use Rattle.writes.proofs.Marks.{next_none, next_found}
use Rattle.writes.proofs.scan.next_write.Goals as goal

pub returns-in_err-start-clause-next_write : goal.returns-in_err-start-clause-next_write
returns-in_err-start-clause-next_write c w =
    let es : c.in_ok-settings.settings.now ≡ c.args.r.settings.now = search rules in
    let ei : c.in_ok-image.image.now ≡ c.args.r.image.now = search rules in
    rw c.from_residual-in_err-start.ensures (next_none _ _ _ w _ _ (λ a l p. omega (arith, c.max.ensures)) (rw (es, ei) at c.in_err-start.ensures))

pub returns-clause-next_write : goal.returns-clause-next_write
returns-clause-next_write c w =
    let es : c.in_ok-settings.settings.now ≡ c.args.r.settings.now = search rules in
    let ei : c.in_ok-image.image.now ≡ c.args.r.image.now = search rules in
    next_found _ _ _ w _ _ (λ a l p. omega (arith, c.max.ensures)) _ _ (omega (arith, c.max.ensures)) (rw (es, ei) at c.in_ok-start.ensures) ((rw (es, ei, c.member_of.ensures) at c.write_end.ensures.2) w)
