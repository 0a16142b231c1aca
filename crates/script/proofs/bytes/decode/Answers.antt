-- `script::bytes::decode` meets its contract.
-- Assumes nothing.
use Rattle.std.proofs.Common.{arith}
use Rattle.std.proofs.lemmas.Grind.{common_steps}
use Rattle.script.proofs.Reading.{decodes_more, decodes_all}
use Rattle.script.proofs.bytes.decode.Goals as goal

pub loop-rest-preserved : goal.loop-rest-preserved
loop-rest-preserved c = decodes_more _ _ _ _ _ _ _ _ _ c.in-len2-up.len_at_least c.pair.ensures c.put-at.ensures c.loop-rest.invariant (grind (arith, common_steps))

pub returns : goal.returns
returns c = let p = decodes_all _ _ _ _ _ c.in_default.len_below c.loop-rest.invariant in record { puts = p.0; prefix_len = p.1 }
