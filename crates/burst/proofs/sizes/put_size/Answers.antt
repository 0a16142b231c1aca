use Rattle.burst.proofs.Steps.{put_none, put_low, put_both}
use Rattle.burst.proofs.sizes.put_size.Goals as goal

pub returns-then-buffer-at : goal.returns-then-buffer-at
returns-then-buffer-at c = put_none _ _ _ c.if-buffer-at.true

pub returns-then-next-buffer : goal.returns-then-next-buffer
returns-then-next-buffer c = put_both _ _ _

pub returns-else-next-buffer : goal.returns-else-next-buffer
returns-else-next-buffer c = put_low _ _ _ c.if-next-buffer.false
