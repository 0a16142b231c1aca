-- `pictures::faults::put_faults` meets its contract.
-- Assumes nothing.
use Rattle.std.proofs.Common.{rules}
use Rattle.pictures.specs.Pictures.{fault_char, faults_text}
use Rattle.pictures.proofs.faults.put_faults.Goals as goal

pub returns : goal.returns
unfolding faults_text
returns c = c.put_picture.ensures (fault_char c.args.readings.now) (λ l s r p. search rules)
