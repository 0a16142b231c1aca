-- `writes::scan::differs` meets its contract.
-- Assumes nothing.
use borrow.Author.Tests.{le-leb, lt-leb, le-ltb}
use Rattle.writes.specs.Found.{differs_at}
use Rattle.writes.proofs.scan.differs.Goals as goal

pub returns-then-a-lt908 : goal.returns-then-a-lt908
unfolding differs_at
returns-then-a-lt908 c = simp (lt-leb 908 _ c.if-a-lt908.true)

pub returns-else-a-lt908 : goal.returns-else-a-lt908
unfolding differs_at
returns-else-a-lt908 c = simp (le-leb 908 _ c.if-a-lt908.false, le-ltb _ 908 c.if-a-lt908.false)
