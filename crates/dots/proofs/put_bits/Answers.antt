-- `dots::put_bits` meets its contract.
-- Assumes nothing.
use native.Mathlib.Omega.{arith}
use Rattle.dots.proofs.Steps.{shift_small, old_inside, put_inside, bits_put}
use borrow.Author.Rules.{rules}
use Rattle.dots.proofs.put_bits.Goals as goal

pub overflow_shr-old : goal.overflow_shr-old
overflow_shr-old c = shift_small c.args.which c.args.shift c.requires

pub overflow_shl-result : goal.overflow_shl-result
overflow_shl-result c = shift_small c.args.which c.args.shift c.requires

pub overflow_sub-result : goal.overflow_sub-result
overflow_sub-result c = old_inside c.args.which c.args.shift c.requires _ c.mask_of-mask.ensures _

pub overflow_shl-result-2 : goal.overflow_shl-result-2
overflow_shl-result-2 c = shift_small c.args.which c.args.shift c.requires

pub overflow_add-result : goal.overflow_add-result
overflow_add-result c = omega (arith, put_inside c.args.which c.args.shift c.requires _ c.mask_of-mask.ensures c.args.byte c.args.value (search rules))

pub returns : goal.returns
returns c = bits_put c.args.which c.args.shift c.requires _ c.mask_of-mask.ensures _ _
