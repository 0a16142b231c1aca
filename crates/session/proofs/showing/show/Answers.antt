-- `session::showing::show` meets its contract.
-- Assumes nothing.
use Rattle.session.proofs.Effects.{shown_does}
use borrow.Author.Rules.{rules}
use Rattle.session.proofs.showing.show.Goals as goal

pub returns : goal.returns
returns c = rw (← c.bytes_of.ensures) (shown_does _ _ _ _ _ (search rules) c.requires c.put_text.auto.text c.put_text.ensures)
