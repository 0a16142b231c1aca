-- `replay::play` meets its contract: the text has room for all that the line prints.
-- Assumes nothing.
use Rattle.replay.specs.OutputLaws.{whole}
use Rattle.replay.proofs.play.Goals as goal

pub returns-clause-text_after : goal.returns-clause-text_after
returns-clause-text_after c =
    (whole _ _ _ _ _ c.requires c.play-played.ensures.line_fits c.play-played.ensures.puts).0

pub returns-clause-at_in_bounds : goal.returns-clause-at_in_bounds
returns-clause-at_in_bounds c =
    (whole _ _ _ _ _ c.requires c.play-played.ensures.line_fits c.play-played.ensures.puts).1
