-- Each copy is written back where it is an image; where it is none, its record took nothing.
-- Assumes nothing.
use Rattle.rounds.specs.Round.{present_at}
use Rattle.rounds.specs.Dealing.{records_of}
use Rattle.rounds.proofs.Slices.{four_after}
use Rattle.rounds.proofs.round_parts.Goals as goal

pub returns-clause-images_after : goal.returns-clause-images_after
returns-clause-images_after c =
    four_after (present_at c.args.present) (records_of c.args.records.now) c.args.limit _ _ _ _ _ _ _ _ _ _ _ _ _ _ c.round_images-answer.ensures.images_after
    c.copied.ensures c.copied-2.ensures c.copied-3.ensures c.copied-4.ensures
    c.put_back.ensures c.put_back-2.ensures c.put_back-3.ensures c.put_back-4.ensures
