-- Laws of Booth.antt about the four panels on their bus: a call of the current panel is a plain bus call at its place, the numbers of a
-- round's answer have at most eleven characters, and its list has at most 4,684 bytes.
-- Assumes nothing.
use Rattle.std.specs.Prelude.{◌≡◌, Bool, cond, ◌&&◌, List, [], ◌∷◌, ℕ, zero, suc, ◌+◌, ◌*◌, ◌≤◌, ◌<◌, eqb, min, get_or}
use Rattle.std.proofs.Math.Path.{refl, ap}
use Rattle.std.proofs.Common.{◌∙◌}
use Rattle.std.proofs.Math.Bool.{true, false}
use native.Mathlib.Omega.{arith}
use Rattle.std.proofs.Math.Dec.{leb}
use Rattle.std.proofs.Math.ListN.{length}
use Rattle.map.specs.declared.refusals.Refusal.{Refusal}
use Rattle.map.specs.declared.refusals.Refusal.TheVariants.{BufferShort, Unsound, RoundLimit, NotItsPlace}
use Rattle.map.specs.Refusals.{refusal_number, numbers_in, numbers_of}
use Rattle.map.specs.RefusalLaws.{refusal_small}
use Rattle.calls.specs.declared.Request.{Request}
use Rattle.host.specs.declared.Record.{Record}
use Rattle.history.specs.Step.{step_of}
use Rattle.update.specs.Update.{ListAnswer, listed, refused, is_listed, list_numbers}
use Rattle.rounds.specs.Round.{count_all, bytes_all, round_size, least_limit, most_limit, every_place, round_parts, present_sound, present_placed, round_answer, present_at, present_by}
use Rattle.rounds.proofs.ListLaws.{few_parts}
use Rattle.rounds.proofs.AcceptLaws.{round_most, round_most_lem}
use Rattle.rounds.proofs.DealLaws.{round_bytes, Takes, round_takes, parts_ready}
use Rattle.bus.specs.Bus.{plain, place_of, world_at, panels_of, hosts_of, bus_step, stepped_of}
use Rattle.script.specs.declared.command.Lent as lents
use Rattle.script.specs.declared.command.Lent.TheVariants.{Nothing, Word, Room}
use Rattle.replies.specs.Replies.{numbers_text}
use Rattle.replies.specs.ReplyLaws.{numbers_most, numbers_within}
use Rattle.session.specs.declared.Session.{Session}
use Rattle.session.specs.Run.{alone, answered, with_world, step_effect, told, call_effect}
use Rattle.booth.specs.declared.Booth.{Booth}
use Rattle.booth.specs.Booth.{no_session, session_at, booth_of, current_of, with_current, panels_in, round_call, rounded_booth}

-- ---- a call

-- what a call leaves of a record and its chip
call_leaves : (s : Session) (q : Request) (lent : lents.Lent) (bytes : List ℕ) → (call_effect s q lent bytes).session.world ≡ (step_of s.world q bytes).world
unfolding call_effect step_effect answered alone with_world told
call_leaves s q Nothing bytes = refl
call_leaves s q (Word n) bytes = refl
call_leaves s q (Room n) bytes = refl

-- a call of the script changes the four panels as the bus call at the current place does
pub call_plain : (x : Booth) (q : Request) (lent : lents.Lent) (bytes : List ℕ) →
    panels_in (with_current x (call_effect (current_of x) q lent bytes).session)
    ≡ panels_of (bus_step (world_at (panels_in x)) (plain (place_of x.current) (record { request = q; lent = bytes })))
unfolding current_of with_current
call_plain x q lent bytes = go (place_of x.current) (omega arith) (call_effect (current_of x) q lent bytes).session (call_leaves (current_of x) q lent bytes ∙ there)
  where
    there : (step_of (current_of x).world q bytes).world ≡ (step_of (session_at x (place_of x.current)).world q bytes).world
    there =
        let same : min x.current 3 ≡ min (min x.current 3) 3 = omega arith in
        ap (λ (k : ℕ). (step_of (get_or x.sessions k no_session).world q bytes).world) same

    put : ℕ → Session → Booth
    put j s = booth_of (λ k. cond (eqb k j) s (session_at x k)) x.current

    go : (j : ℕ) → j < 4 → (s : Session) → s.world ≡ (step_of (session_at x j).world q bytes).world →
        panels_in (put j s) ≡ panels_of (bus_step (world_at (panels_in x)) (plain j (record { request = q; lent = bytes })))
    go zero h s e = rw e refl
    go (suc zero) h s e = rw e refl
    go (suc (suc zero)) h s e = rw e refl
    go (suc (suc (suc zero))) h s e = rw e refl
    go (suc (suc (suc (suc j)))) h s e = absurd (omega arith)

-- ---- a round

-- n and t have four digits at most
module _ (present : ℕ → Bool) (records : ℕ → Record) (limit size : ℕ) where
  abbrev n : ℕ
  n = count_all (round_parts present records limit)

  abbrev t : ℕ
  t = bytes_all (round_parts present records limit)

  -- its answer, by its four conditions
  abbrev by : Bool → Bool → Bool → Bool → ListAnswer
  by a b c d = cond a (cond b (cond c (cond d (listed n t) (refused BufferShort)) (refused NotItsPlace)) (refused RoundLimit)) (refused Unsound)

  small : Takes present records limit size → (n < 10000) × (t < 10000)
  small e =
      let bytes = round_bytes present records limit in
      let few = few_parts (round_parts present records limit) (parts_ready present records limit e.sound) in
      (omega (arith, e.most), omega (arith, e.most))

  listed_most : (n < 10000) × (t < 10000) → length (numbers_text (list_numbers (listed n t))) ≤ 11
  listed_most h = numbers_most 0 0 (3 ∷ 3 ∷ []) (n ∷ t ∷ []) (omega arith) (h.0, (h.1, tt))

  refused_most : (r : Refusal) → length (numbers_text (list_numbers (refused r))) ≤ 11
  refused_most r = omega (arith, numbers_most 1 (refusal_number r) [] [] (refusal_small r) tt)

  answer_most : length (numbers_text (list_numbers (round_answer present records limit size))) ≤ 11
  unfolding round_answer
  answer_most =
      go (every_place (present_sound present records)) (leb least_limit limit && leb limit most_limit) (every_place (present_placed present records))
      (leb (round_size (round_parts present records limit)) size) (λ e. small (round_takes present records limit size e))
    where
      go : (a b c d : Bool) → (is_listed (by a b c d) ≡ true → (n < 10000) × (t < 10000)) → length (numbers_text (list_numbers (by a b c d))) ≤ 11
      go true true true true h = listed_most (h refl)
      go true true true false h = refused_most BufferShort
      go true true false d h = refused_most NotItsPlace
      go true false c d h = refused_most RoundLimit
      go false b c d h = refused_most Unsound

  -- the list that an answer of 0, n and t tells of
  list_most : 4 + 2 * get_or (numbers_of (list_numbers (round_answer present records limit size))).values 1 0 + get_or (numbers_of (list_numbers (round_answer present records limit size))).values 2 0 ≤ round_most
  unfolding round_answer numbers_of
  list_most =
      go (every_place (present_sound present records)) (leb least_limit limit && leb limit most_limit) (every_place (present_placed present records))
      (leb (round_size (round_parts present records limit)) size) (λ e. round_most_lem present records (round_takes present records limit size e).sound limit)
    where
      go : (a b c d : Bool) → (is_listed (by a b c d) ≡ true → 4 + 2 * n + t ≤ round_most) →
          4 + 2 * get_or (numbers_of (list_numbers (by a b c d))).values 1 0 + get_or (numbers_of (list_numbers (by a b c d))).values 2 0 ≤ round_most
      go true true true true h = h refl
      go true true true false h = omega arith
      go true true false d h = omega arith
      go true false c d h = omega arith
      go false b c d h = omega arith

-- "`0 n t`, or `N`"
pub round_numbers : (x : Booth) (p limit : ℕ) (buffer : List ℕ) → length (numbers_text (numbers_in (rounded_booth x p limit buffer).numbers)) ≤ 11
unfolding rounded_booth round_call stepped_of
round_numbers x p limit buffer =
    let answer = round_answer (present_at (present_by p)) (hosts_of (world_at (panels_in x))) limit (length buffer) in
    omega (arith, numbers_within (list_numbers answer), answer_most (present_at (present_by p)) (hosts_of (world_at (panels_in x))) limit (length buffer))

-- its list fits the place of the last one
pub round_list_lem : (x : Booth) (p limit : ℕ) (buffer : List ℕ) →
    4 + 2 * get_or (rounded_booth x p limit buffer).numbers.values 1 0 + get_or (rounded_booth x p limit buffer).numbers.values 2 0 ≤ round_most
unfolding rounded_booth round_call stepped_of
round_list_lem x p limit buffer = list_most (present_at (present_by p)) (hosts_of (world_at (panels_in x))) limit (length buffer)
