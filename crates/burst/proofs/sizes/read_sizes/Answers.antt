use Rattle.std.proofs.Common.{ap, not}
use native.Mathlib.Omega.{arith}
use Rattle.burst.specs.BurstLaws.{size_read}
use Rattle.burst.proofs.Steps.{sizes_short, sizes_other, sizes_lengths, sizes_all}
use Rattle.burst.proofs.sizes.read_sizes.Goals as goal

pub returns-then-list-lt4 : goal.returns-then-list-lt4
returns-then-list-lt4 c = sizes_short _ c.if-list-lt4.true

pub overflow_mul-n : goal.overflow_mul-n
overflow_mul-n c = omega (arith, size_read _ _ _ c.size_at-n.ensures)

pub overflow_add-n : goal.overflow_add-n
overflow_add-n c = omega (arith, size_read _ _ _ c.size_at-n.ensures)

pub overflow_add-n-2 : goal.overflow_add-n-2
overflow_add-n-2 c = omega (arith, size_read _ _ _ c.size_at-n.ensures, size_read _ _ _ c.size_at-t.ensures)

pub returns-then-list-n : goal.returns-then-list-n
returns-then-list-n c = sizes_other _ _ _ c.size_at-n.ensures c.size_at-t.ensures c.if-list-n.true

pub lengths_good-requires : goal.lengths_good-requires
lengths_good-requires c = size_read _ _ _ c.size_at-n.ensures

pub returns-then-not-lengths_good : goal.returns-then-not-lengths_good
returns-then-not-lengths_good c =
    sizes_lengths _ _ _ _ c.size_at-n.ensures c.size_at-t.ensures
    c.if-list-lt4.false c.if-list-n.false
    c.lengths_good.ensures (ap not c.if-not-lengths_good.true)

pub returns : goal.returns
returns c =
    sizes_all _ _ _ _ c.size_at-n.ensures c.size_at-t.ensures
    c.if-list-lt4.false c.if-list-n.false
    c.lengths_good.ensures (ap not c.if-not-lengths_good.false)
