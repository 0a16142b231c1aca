-- `pictures::differences::put_register` meets its contract.
-- Assumes nothing.
use Rattle.pictures.proofs.Steps.{register_put}
use Rattle.pictures.proofs.differences.put_register.Goals as goal

pub returns : goal.returns
returns c = register_put _ _ _ _ _ _ _ _ _ _ _ c.byte_or.ensures c.byte_or-2.ensures c.put_address-next.ensures c.put_spaced_bytes.ensures
