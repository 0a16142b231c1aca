-- `panel::feed` meets its contract.
-- Assumes nothing.
use Rattle.panel.proofs.Steps.{unfed, fed, list_length}
use Rattle.panel.proofs.feed.Goals as goal

pub returns-then-answer-ne0 : goal.returns-then-answer-ne0
returns-then-answer-ne0 c = unfed _ _ _ _ _ c.if-answer-ne0.true

pub slice_bounds-lp586x_chip_feed-end : goal.slice_bounds-lp586x_chip_feed-end
slice_bounds-lp586x_chip_feed-end c = list_length _ _ _ (c.requires c.if-answer-ne0.false)

pub returns : goal.returns
returns c = fed _ _ _ _ _ _ c.if-answer-ne0.false c.lp586x_chip_feed.ensures.bytes_after
