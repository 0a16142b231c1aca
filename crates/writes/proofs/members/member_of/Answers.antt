-- `writes::members::member_of` meets its contract.
-- Assumes nothing.
use Rattle.writes.proofs.members.member_of.Goals as goal

pub invariant_of-result : goal.invariant_of-result
invariant_of-result c = record { its_lines = c.lines.ensures.0; its_columns = c.columns.ensures }
