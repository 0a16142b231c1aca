-- The number of each refusal: 1 to 14 as document 01 gives them (there is no 12), 15 to 18 as document 02 does, and 26; the answers
-- that are no more than such a number, the numbers of any answer, and what Open answers.
-- Assumes nothing.
use Rattle.std.specs.Prelude.{Bool, true, false, cond, ◌&&◌, ◌||◌, List, [], ◌∷◌, ℕ, Result, Ok, Err, ltb, eqb, length, get_or, take}
use Rattle.map.specs.declared.refusals.Numbers.{Numbers}
use Rattle.map.specs.declared.refusals.Refusal.{Refusal}
use Rattle.map.specs.declared.refusals.Refusal.TheVariants.{Member, Bus, Pins, NotWritable, ReservedBit, NoDot, Level, GroupOrState, SceneLength, BufferShort, ListSizes, FaultLength, Unsound, RoundLimit, NotItsPlace, Locked, NotLockable, NoTransaction}

-- "a definition states this paper's number and values for each case of the enum": the number before each refusal's condition
abbrev pub refusal_number : Refusal → ℕ
refusal_number Member = 1
refusal_number Bus = 2
refusal_number Pins = 3
refusal_number NotWritable = 4
refusal_number ReservedBit = 5
refusal_number NoDot = 6
refusal_number Level = 7
refusal_number GroupOrState = 8
refusal_number SceneLength = 9
refusal_number BufferShort = 10
refusal_number ListSizes = 11
refusal_number FaultLength = 13
refusal_number Unsound = 14
refusal_number RoundLimit = 15
refusal_number NotItsPlace = 16
refusal_number Locked = 17
refusal_number NotLockable = 18
refusal_number NoTransaction = 26

-- what a call answers that hands back no value of its own: accepted, or a refusal
abbrev pub Answer : Type 0
Answer = Result Unit Refusal

-- an accepted call answers 0
abbrev pub answer_number : Answer → ℕ
answer_number (Ok u) = 0
answer_number (Err r) = refusal_number r

-- the number of an answer and its values, in order: the first `count` of five
unfoldable pub numbers_in : Numbers → List ℕ
numbers_in n = take n.count n.values

-- the numbers of a list, with 0 where it has none
unfoldable pub numbers_of : List ℕ → Numbers
numbers_of l = record { count = length l; values = get_or l 0 0 ∷ get_or l 1 0 ∷ get_or l 2 0 ∷ get_or l 3 0 ∷ get_or l 4 0 ∷ [] }

-- "an accepted Open": the answer is no refusal
abbrev pub accepted : Answer → Bool
accepted (Ok u) = true
accepted (Err r) = false

-- Open: "1: member above 4. 2: bus above 1. 3: pins above 3, or not 0 on SPI."
unfoldable pub open_answer : ℕ → ℕ → ℕ → Answer
open_answer m b p =
    cond (ltb 4 m) (Err Member)
    (cond (ltb 1 b) (Err Bus)
    (cond (ltb 3 p || (eqb b 1 && ltb 0 p)) (Err Pins) (Ok tt)))

-- "Open takes its member, bus and pins"
unfoldable pub opens : ℕ → ℕ → ℕ → Bool
opens m b p = accepted (open_answer m b p)
