-- The invariant of `script::bytes::decode`: all but the digits that are left is decoded.
-- Assumes nothing.
use Rattle.std.proofs.Common.{length}
use Rattle.script.proofs.Reading.{Decodes}
use Rattle.script.proofs.bytes.decode.Given as goal

abbrev pub invariant-loop-rest : goal.invariant-loop-rest
invariant-loop-rest l = Decodes l.initial.buffer l.word l.rest l.buffer l.at

abbrev pub decreases-loop-rest : goal.decreases-loop-rest
decreases-loop-rest l = length l.rest
