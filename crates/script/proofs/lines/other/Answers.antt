-- `script::lines::other` meets its contract.
-- Assumes nothing.
use mathlib.Core.Path.{refl}
use native.Mathlib.Omega.{arith}
use Rattle.script.specs.Lines.{lines, line_at, call_at}
use Rattle.script.proofs.Judging.{no_call}
use Rattle.script.proofs.lines.other.Goals as goal

pub returns-in-0 : goal.returns-in-0
unfolding call_at line_at lines
returns-in-0 c = rw c.in-0.is refl

pub returns-in-1 : goal.returns-in-1
unfolding call_at line_at lines
returns-in-1 c = rw c.in-1.is refl

pub returns-in-2 : goal.returns-in-2
unfolding call_at line_at lines
returns-in-2 c = rw c.in-2.is refl

pub returns-in-3 : goal.returns-in-3
unfolding call_at line_at lines
returns-in-3 c = rw c.in-3.is refl

pub returns-in-4 : goal.returns-in-4
unfolding call_at line_at lines
returns-in-4 c = rw c.in-4.is refl

pub returns-in-5 : goal.returns-in-5
unfolding call_at line_at lines
returns-in-5 c = rw c.in-5.is refl

pub returns-in-6 : goal.returns-in-6
unfolding call_at line_at lines
returns-in-6 c = rw c.in-6.is refl

pub returns-in-7 : goal.returns-in-7
unfolding call_at line_at lines
returns-in-7 c = rw c.in-7.is refl

pub returns-in-8 : goal.returns-in-8
unfolding call_at line_at lines
returns-in-8 c = rw c.in-8.is refl

pub returns-in-9 : goal.returns-in-9
unfolding call_at line_at lines
returns-in-9 c = rw c.in-9.is refl

pub returns-in-10 : goal.returns-in-10
unfolding call_at line_at lines
returns-in-10 c = rw c.in-10.is refl

pub returns-in-11 : goal.returns-in-11
unfolding call_at line_at lines
returns-in-11 c = rw (c.in-11.is, c.part.ensures) refl

pub returns-in-12 : goal.returns-in-12
unfolding call_at line_at lines
returns-in-12 c = rw (c.in-12.is, c.header.ensures, c.entry.ensures) refl

pub returns-in-13 : goal.returns-in-13
unfolding call_at line_at lines
returns-in-13 c = rw c.in-13.is refl

pub returns-in-14 : goal.returns-in-14
unfolding call_at line_at lines
returns-in-14 c = rw (c.in-14.is, c.part-in-14.ensures) refl

pub returns-in-15 : goal.returns-in-15
unfolding call_at line_at lines
returns-in-15 c = rw c.in-15.is refl

pub returns-in-16 : goal.returns-in-16
unfolding call_at line_at lines
returns-in-16 c = rw c.in-16.is refl

pub returns-in-17 : goal.returns-in-17
unfolding call_at line_at lines
returns-in-17 c = rw c.in-17.is refl

pub returns-in-18 : goal.returns-in-18
unfolding call_at line_at lines
returns-in-18 c = rw c.in-18.is refl

pub returns-in-19 : goal.returns-in-19
unfolding call_at line_at lines
returns-in-19 c = rw c.in-19.is refl

pub returns-in-20 : goal.returns-in-20
unfolding call_at line_at lines
returns-in-20 c = rw c.in-20.is refl

pub returns-in-21 : goal.returns-in-21
unfolding call_at line_at lines
returns-in-21 c = rw c.in-21.is refl

pub returns-in-22 : goal.returns-in-22
unfolding call_at line_at lines
returns-in-22 c = rw c.in-22.is refl

pub returns-in-23 : goal.returns-in-23
unfolding call_at line_at lines
returns-in-23 c = rw c.in-23.is refl

pub returns-in_default : goal.returns-in_default
unfolding lines
returns-in_default c = no_call _ _ _ _ (omega arith)
