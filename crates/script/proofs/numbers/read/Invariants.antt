-- The invariant of `script::numbers::read`: the digits that are left say what the word does.
-- Assumes nothing.
use Rattle.std.proofs.Common.{◌≡◌, ◌≤◌, drop}
use Rattle.script.specs.Numbers.{numeral_of}
use Rattle.script.proofs.Reading.{rest_of}
use Rattle.script.proofs.numbers.read.Given as goal

abbrev pub invariant-loop-byte : goal.invariant-loop-byte
invariant-loop-byte l = (l.value ≤ l.most) × (rest_of l.base l.most l.value (drop l.byte-index l.word) ≡ numeral_of l.base l.digits l.most l.word)
