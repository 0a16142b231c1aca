use native.Mathlib.Omega.{arith}
use Rattle.std.proofs.lemmas.Result.{err_from_is_err_and}
use Rattle.burst.proofs.Steps.{good_read, before_small, place_bad, place_none, place_at}
use Rattle.burst.proofs.places.transaction.Goals as goal

pub returns-in_err-n : goal.returns-in_err-n
returns-in_err-n c =
    let p = err_from_is_err_and c.from_residual.result c.from_residual.ensures.1 in
    rw (p.1, p.2) (place_bad _ _ c.read_sizes.ensures _ _ c.in_err-n.ensures.value)

pub returns-then-n-index : goal.returns-then-n-index
returns-then-n-index c = place_none _ _ _ _ (good_read _ _ c.read_sizes.ensures _ c.in_ok-n.ensures.value) c.if-n-index.true

pub bytes_before-requires : goal.bytes_before-requires
bytes_before-requires c = omega (arith, (good_read _ _ c.read_sizes.ensures _ c.in_ok-n.ensures.value).n_is, c.if-n-index.false)

pub overflow_mul-offset : goal.overflow_mul-offset
overflow_mul-offset c = omega (arith, (good_read _ _ c.read_sizes.ensures _ c.in_ok-n.ensures.value).n_small)

pub overflow_add-offset : goal.overflow_add-offset
overflow_add-offset c = omega (arith, (good_read _ _ c.read_sizes.ensures _ c.in_ok-n.ensures.value).n_small)

pub overflow_add-offset-2 : goal.overflow_add-offset-2
overflow_add-offset-2 c =
    let g = good_read _ _ c.read_sizes.ensures _ c.in_ok-n.ensures.value in
    omega (arith, g.n_small, before_small _ _ _ _ _ g c.bytes_before.ensures)

pub overflow_mul-index : goal.overflow_mul-index
overflow_mul-index c = omega (arith, (good_read _ _ c.read_sizes.ensures _ c.in_ok-n.ensures.value).n_small, c.if-n-index.false)

pub overflow_add-index : goal.overflow_add-index
overflow_add-index c = omega (arith, (good_read _ _ c.read_sizes.ensures _ c.in_ok-n.ensures.value).n_small, c.if-n-index.false)

pub returns : goal.returns
returns c =
    place_at _ _ _ _ _ _ (good_read _ _ c.read_sizes.ensures _ c.in_ok-n.ensures.value) c.if-n-index.false c.bytes_before.ensures
    c.size_at-length.ensures
