-- `update::lists::list_sizes` meets its contract.
-- Assumes nothing.
use native.Mathlib.Omega.{arith}
use Rattle.host.specs.Record.{record_behind}
use Rattle.update.proofs.WholeList.{sizes_off, sizes_on}
use Rattle.update.proofs.lists.list_sizes.Goals as goal

pub returns-then-r-ne1 : goal.returns-then-r-ne1
returns-then-r-ne1 c = sizes_off (record_behind c.args.r) _ c.enable_count-first.ensures c.if-r-ne1.true

pub returns : goal.returns
returns c =
    sizes_on (record_behind c.args.r) _ c.enable_count-first.ensures _ _ (omega (arith, c.if-r-ne1.false)) c.count_writes-all.ensures.small
    (c.count_writes-all.ensures.counted c.requires)
