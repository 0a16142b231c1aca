-- `pictures::differences::put_differences` meets its contract.
-- Assumes nothing.
use Rattle.pictures.proofs.Steps.{differences_some, differences_none}
use Rattle.pictures.proofs.differences.put_differences.Goals as goal

pub put_registers-requires : goal.put_registers-requires
put_registers-requires c = (c.in-Some.ensures.0, c.in-Some.ensures.1.holds c.in-Some.ensures.0)

pub returns-in-Some : goal.returns-in-Some
returns-in-Some c = differences_some _ _ _ _ _ _ _ _ c.in-Some.ensures c.put_registers.ensures

pub returns-in-None : goal.returns-in-None
returns-in-None c = differences_none _ _ _ _ _ _ _ c.in-None.ensures c.put_text.ensures
