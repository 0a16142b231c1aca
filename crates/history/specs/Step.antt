-- One call on a world, by the promises of the real calls and of Feed: document 01, "The ledger and whole lists". A world is a host's
-- record, `host`, and its chip; `lent` is the bytes of a scene, or the buffer of a call that writes a list.
-- Assumes nothing.
use Rattle.std.specs.Prelude.{Bool, List, ℕ, ◌+◌, ◌*◌, ◌≤◌, eqb, length, take, Ok, Err, get_or}
use Rattle.map.specs.declared.refusals.Numbers.{Numbers}
use Rattle.map.specs.declared.refusals.Refusal.TheVariants.{Locked}
use Rattle.map.specs.Refusals.{refusal_number, numbers_of}
use Rattle.calls.specs.declared.Request.{Request}
use Rattle.calls.specs.declared.Request.TheVariants.{Set, Reset, PowerLost, Update, Lock}
use Rattle.host.specs.declared.Changed.{Changed}
use Rattle.host.specs.Record.{setting_of, power_lost_of, lock_of}
use Rattle.update.specs.declared.Sent.{Sent}
use Rattle.update.specs.declared.Updated.{Updated}
use Rattle.update.specs.Update.{ListAnswer, list_numbers, update_numbers, Sending, send_of, send_buffer, update_of, update_buffer, resetting, clearing}
use Rattle.chip.specs.declared.Chip.{Chip}
use Rattle.chip.specs.Chip.{feed_of}
use Rattle.history.specs.declared.World.{World}
use Rattle.history.specs.declared.CallAnswer as answers
use Rattle.history.specs.declared.Stepped.{Stepped}

-- ---- Answers

-- "a definition states this paper's number and values for each case of the enum": a setting, Power lost and Lock answer those of their
-- call (`setting_numbers` of host), a call that writes a list what the list's answer has, and Update how many image bytes it stored as well
abbrev pub call_numbers : answers.CallAnswer → Numbers
call_numbers (answers.TheVariants.Setting numbers) = numbers
call_numbers (answers.TheVariants.List answer) = numbers_of (list_numbers answer)
call_numbers (answers.TheVariants.Update answer stored) = numbers_of (update_numbers answer stored)

-- Q-5, "each 17": whether an answer is one
unfoldable pub answers_locked : answers.CallAnswer → Bool
answers_locked answer = eqb (get_or (call_numbers answer).values 0 0) (refusal_number Locked)

-- ---- What the chip gets

-- the list that an answer says is the first 4 + 2n + t bytes of the buffer
abbrev pub list_in : ℕ → ℕ → List ℕ → List ℕ
list_in n t buffer = take (4 + 2 * n + t) buffer

-- "The list of an accepted Update or Reset is fed to the chip as soon as it is answered;"
abbrev pub fed_by : ListAnswer → List ℕ → Chip → Chip
fed_by (Ok l) buffer c = (feed_of c (list_in l.n l.t buffer)).chip
fed_by (Err e) buffer c = c

-- the buffer has all of it
abbrev pub Within : ListAnswer → ℕ → Type 0
Within (Ok l) size = 4 + 2 * l.n + l.t ≤ size
Within (Err e) size = Unit

-- ---- A step

-- What a call does: its answer, the world after it, and the lent bytes as it leaves them.
pub record Step : Type 0 where
  pub answer : answers.CallAnswer
  pub world : World
  pub lent : List ℕ

-- what the program gives back of a step, and the lent bytes as they then are
abbrev pub leaving : Stepped → List ℕ → Step
leaving x lent = record { answer = x.answer; world = x.world; lent = lent }

-- a call that writes no list, and the chip after it;
abbrev pub changed_by : Changed → Chip → Stepped
changed_by x c = record { answer = answers.TheVariants.Setting x.numbers; world = record { host = x.host; chip = c } }

-- the lent bytes stay
abbrev pub change_step : Changed → Chip → List ℕ → Step
change_step x c lent = leaving (changed_by x c) lent

-- a call that wrote a list, with the buffer after it and the chip before it
abbrev pub list_step : Sent → List ℕ → Chip → Step
list_step x buffer c = record {
  answer = answers.TheVariants.List x.answer;
  world = record { host = x.host; chip = fed_by x.answer buffer c };
  lent = buffer;
}

-- Reset and Clear are such ones
abbrev pub send_step : World → Sending → List ℕ → Step
send_step w x buffer = list_step (send_of w.host x (length buffer)) (send_buffer w.host x buffer) w.chip

-- so is Update, which "also answers how many image bytes it stored" (Q-4)
abbrev pub update_step : Updated → List ℕ → Chip → Step
update_step x buffer c = record {
  answer = answers.TheVariants.Update x.answer x.stored;
  world = record { host = x.host; chip = fed_by x.answer buffer c };
  lent = buffer;
}

-- "at Power lost the chip loses power."
abbrev pub step_of : World → Request → List ℕ → Step
step_of w (Set q) lent = change_step (setting_of w.host q lent) w.chip lent
step_of w Reset lent = send_step w (resetting w.host) lent
step_of w PowerLost lent = change_step (power_lost_of w.host) (Rattle.chip.specs.Chip.power_lost_of w.chip) lent
step_of w Update lent = update_step (update_of w.host (length lent)) (update_buffer w.host lent) w.chip
step_of w Lock lent = change_step (lock_of w.host) w.chip lent

-- ---- Clear, which is no call of the list of demand 3

-- its list is fed as that of a Reset is
abbrev pub clear_step : World → List ℕ → Step
clear_step w buffer = send_step w (clearing w.host) buffer
