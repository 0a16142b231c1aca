-- The text that waits to be written. size is the size of its buffer, at how much of it waits.
-- Assumes nothing.
use Rattle.std.specs.Prelude.{cond, ℕ, ◌-◌, leb}
use Rattle.player.specs.Play.{longest_line}

-- how much waits after a line: all of it while the longest line has room behind it, else it is written and none waits
unfoldable pub waiting : ℕ → ℕ → ℕ
waiting size at = cond (leb longest_line (size - at)) at 0
