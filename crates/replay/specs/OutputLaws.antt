-- Laws of Output.antt: before each line there is room for the longest, and so all that a line prints stands behind what waits.
-- Assumes nothing.
use Rattle.std.specs.Prelude.{◌≡◌, refl, Bool, true, false, cond, List, ◌++◌, ℕ, ◌+◌, ◌-◌, ◌≤◌, ◌<◌, leb, length, take}
use Rattle.std.proofs.Common.{◌∙◌, arith, leb-true, le-leb}
use Rattle.std.proofs.lemmas.Bool.{lt-leb}
use Rattle.text.specs.Text.{Puts}
use Rattle.text.specs.TextLaws.{after_room, placed_room, puts_length}
use Rattle.player.specs.Play.{longest_line}
use Rattle.replay.specs.Output.{waiting}

pub waits_on : (size at : ℕ) → longest_line ≤ size - at → at ≡ waiting size at
unfolding waiting
waits_on size at h = rw (le-leb longest_line (size - at) h) refl

pub waits_no_more : (size at : ℕ) → size - at < longest_line → 0 ≡ waiting size at
unfolding waiting
waits_no_more size at h = rw (lt-leb longest_line (size - at) h) refl

-- no answer is lost: the room that a line finds
pub room_waits : (size at : ℕ) → at ≤ size → longest_line ≤ size → waiting size at + longest_line ≤ size
unfolding waiting
room_waits size at h k = go (leb longest_line (size - at)) refl
  where
    go : (b : Bool) → leb longest_line (size - at) ≡ b → cond b at 0 + longest_line ≤ size
    go true e = omega (arith, leb-true longest_line (size - at) e)
    go false e = omega arith

-- a text that has room is put whole
pub whole : (old : List ℕ) (at : ℕ) (line new : List ℕ) (r : ℕ) → at + longest_line ≤ length old → length line ≤ longest_line → Puts old at line new r →
    (take r new ≡ take at old ++ line) × (r ≤ length new)
whole old at line new r h most p =
    let room : at + length line ≤ length old = omega arith in
    let end : r ≡ at + length line = p.place ∙ after_room (length old) at line room in
    (rw (end, p.buffer) (placed_room old at line room), omega (arith, end, puts_length old at line new r p))
