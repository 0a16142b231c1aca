-- `capi::records::put_header` meets its contract. The marks are stored behind the front.
-- Assumes nothing.
use mathlib.Core.Path.{ap, ◌∙◌}
use mathlib.Core.List.{List}
use Prim.Native.Nat.{ℕ}
use lib.ListN.{set}
use Rattle.host.specs.Record.{free}
use Rattle.capi.specs.Capi.{marks_at}
use Rattle.capi.proofs.records.put_header.Goals as goal

pub returns : goal.returns
returns c = c.put_marks.ensures ∙ ap (λ (l : List ℕ). set l marks_at free) c.put_front.ensures
