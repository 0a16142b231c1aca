-- `map::kinds::kind_at` meets its contract.
-- Assumes nothing.
use mathlib.Core.Path.{refl, sym}
use Rattle.map.specs.KindLaws.{entry_kind}
use Rattle.map.specs.Lists.{table, table_from}
use Rattle.map.specs.Map.{kind_of}
use Rattle.map.specs.KindTable.{kind_table}
use Rattle.map.specs.MapLaws.{kind_past}
use Rattle.map.proofs.kinds.kind_at.Goals as goal

pub returns-then-address-lt908 : goal.returns-then-address-lt908
unfolding kind_table kind_of table table_from
returns-then-address-lt908 c = entry_kind _ _ _ refl c.if-address-lt908.true

pub returns-else-address-lt908 : goal.returns-else-address-lt908
returns-else-address-lt908 c = sym (kind_past _ c.if-address-lt908.false)
