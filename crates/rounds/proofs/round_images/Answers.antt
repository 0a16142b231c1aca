-- A refused round leaves the buffer and the copies; an accepted one puts its list, and the copies take what is sent.
-- Assumes nothing.
use Rattle.std.proofs.Common.{ap}
use Rattle.update.specs.Update.{is_listed}
use Rattle.rounds.specs.Round.{present_at}
use Rattle.rounds.specs.Dealing.{records_of}
use Rattle.rounds.proofs.Accepting.{refused_leaves, listed_leaves}
use Rattle.rounds.proofs.round_images.Goals as goal

pub returns-in_err-dealt-clause-buffer_after : goal.returns-in_err-dealt-clause-buffer_after
returns-in_err-dealt-clause-buffer_after c =
    (refused_leaves (present_at c.args.present) (records_of c.args.records.now) c.args.limit c.args.buffer.now c.args.images.now _ c.in_err-dealt.ensures).0

pub returns-in_err-dealt-clause-images_after : goal.returns-in_err-dealt-clause-images_after
returns-in_err-dealt-clause-images_after c =
    (refused_leaves (present_at c.args.present) (records_of c.args.records.now) c.args.limit c.args.buffer.now c.args.images.now _ c.in_err-dealt.ensures).1

pub returns-clause-buffer_after : goal.returns-clause-buffer_after
returns-clause-buffer_after c =
    (listed_leaves (present_at c.args.present) (records_of c.args.records.now) c.args.limit _ _ _ _ (ap is_listed c.in_ok-dealt.ensures.answer) c.put_round.ensures).0

pub returns-clause-images_after : goal.returns-clause-images_after
returns-clause-images_after c =
    (listed_leaves (present_at c.args.present) (records_of c.args.records.now) c.args.limit _ _ _ _ (ap is_listed c.in_ok-dealt.ensures.answer) c.put_round.ensures).1
