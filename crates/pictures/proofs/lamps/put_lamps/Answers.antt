-- `pictures::lamps::put_lamps` meets its contract.
-- Assumes nothing.
use Rattle.std.proofs.Common.{rules}
use Rattle.pictures.specs.Pictures.{lamp_char, lamps_text}
use Rattle.pictures.proofs.lamps.put_lamps.Goals as goal

pub returns : goal.returns
unfolding lamps_text
returns c = c.put_picture.ensures (lamp_char c.args.member c.args.image.now) (λ l s r p. search rules)
