-- The records take the images that the round left of their copies.
-- Assumes nothing.
use Rattle.rounds.proofs.Accepting.{round_by_value}
use Rattle.rounds.proofs.round.Goals as goal

pub returns-clause-value : goal.returns-clause-value
returns-clause-value c =
    round_by_value c.args.records c.args.present c.args.limit _ _ _ _ _ _ c.lent.ensures c.images-images.ensures
    c.round_images-answer.ensures.value c.round_images-answer.ensures.images_after c.with_images.ensures
