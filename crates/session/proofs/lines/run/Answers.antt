-- `session::lines::run` meets its contract: what the command of a line asks for is there.
-- Assumes nothing.
use Rattle.script.specs.LineLaws.{CommandFits}
use Rattle.session.proofs.Effects.{fitting}
use Rattle.session.proofs.lines.run.Goals as goal

pub call-requires : goal.call-requires
unfolding CommandFits
call-requires c = ((fitting _ _ _ c.requires.0 c.in-Call.is).0, c.requires.1)

pub clear-requires : goal.clear-requires
unfolding CommandFits
clear-requires c = (fitting _ _ _ c.requires.0 c.in-Clear.is, c.requires.1)

pub feed-requires : goal.feed-requires
unfolding CommandFits
feed-requires c = (fitting _ _ _ c.requires.0 c.in-Feed.is, c.requires.1)

pub faults-requires : goal.faults-requires
unfolding CommandFits
faults-requires c = let fit = fitting _ _ _ c.requires.0 c.in-Faults.is in (fit.0, fit.1, c.requires.1)

pub poke-requires : goal.poke-requires
unfolding CommandFits
poke-requires c = fitting _ _ _ c.requires.0 c.in-Poke.is

pub header-requires : goal.header-requires
unfolding CommandFits
header-requires c = fitting _ _ _ c.requires.0 c.in-Header.is
