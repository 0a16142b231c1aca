-- What a line does, over plain values: r is what the program gives back of it.
-- Assumes nothing.
use mathlib.Core.Path.{◌≡◌, refl, sym, ap, subst, ◌∙◌}
use mathlib.Core.Bool.{Bool, true, false}
use Rattle.std.specs.Prelude.{Option, Some, None, Ok, Err}
use mathlib.Core.List.{List, [], ◌∷◌, ◌++◌}
use Prim.Native.Nat.{ℕ, ◌≤◌}
use native.Mathlib.Omega.{arith}
use lib.ListN.{length, take, drop, length-append}
use lib.Seq.{take-length, take-append-le, take_at, length-take-le, length_front}
use Rattle.map.specs.declared.refusals.Refusal.TheVariants.{Unsound}
use Rattle.map.specs.declared.refusals.Numbers as numbers
use Rattle.map.specs.Refusals.{refusal_number, numbers_of}
use Rattle.burst.specs.Burst.{bus_bytes}
use Rattle.faults.specs.Faults as faults
use Rattle.faults.specs.Faults.{answer_numbers, faults_answer, faults_result}
use Rattle.calls.specs.declared.Request.{Request}
use Rattle.calls.specs.declared.Request.TheVariants.{Set, Reset, PowerLost, Update, Lock}
use Rattle.host.specs.declared.Record.{Record}
use Rattle.host.specs.Record.{sound_of}
use Rattle.update.specs.declared.Listed.{Listed}
use Rattle.update.specs.declared.NotListed.{NotListed}
use Rattle.update.specs.declared.NotListed.TheVariants.{Refused}
use Rattle.update.specs.Update.{ListAnswer, listed, refused, writes_of, send_answer, update_answer}
use Rattle.update.specs.BoundLaws.{always_room}
use Rattle.history.specs.declared.World.{World}
use Rattle.history.specs.declared.Stepped.{Stepped}
use Rattle.history.specs.declared.Ledger.{Ledger}
use Rattle.history.specs.Step.{Step, answers_locked, leaving, step_of}
use Rattle.history.specs.Ledger.{told_of, entered_of}
use Rattle.script.specs.declared.command.Command.{Command}
use Rattle.script.specs.declared.command.Line.TheVariants.{Run}
use Rattle.script.specs.declared.command.Lent as lents
use Rattle.script.specs.Lines.{line_of}
use Rattle.script.specs.LineLaws.{CommandFits, Fits, fits}
use Rattle.script.specs.declared.command.Lent.TheVariants.{Room}
use Rattle.text.specs.Text.{Puts}
use Rattle.replies.specs.declared.Reply.{Reply}
use Rattle.replies.specs.declared.Reply.TheVariants.{Bad, Numbers, Lent, Bytes, Same, Differs, Free, Locked}
use Rattle.session.specs.declared.Session.{Session}
use Rattle.session.specs.declared.outcomes.Outcome.{Outcome}
use Rattle.session.specs.Run.{Effect, Does, Plain, Words, answered, step_effect, enters, told, call_effect, faults_effect, shown_bytes, pending_numbers}
use Rattle.session.proofs.Buffers.{whole}

pub plain_words : (r : Reply) → Plain r → Words r
unfolding Plain Words
plain_words Bad p = omega arith
plain_words (Numbers n) p = absurd (omega arith)
plain_words (Lent n) p = omega arith
plain_words Bytes p = omega arith
plain_words Same p = omega arith
plain_words (Differs a) p = omega arith
plain_words Free p = omega arith
plain_words Locked p = omega arith

-- ---- a part of the buffer is lent, and the rest stands behind it

pub does_front : (r : Outcome) (x y : List ℕ) (e : Effect) → Does r x e → Does r (x ++ y) e
does_front r x y e d = record {
  is = rw (take-append-le r.shown x y d.within) d.is;
  within = omega (arith, d.within, length-append x y);
  words = d.words;
}

-- the ledger may be told of the lent bytes after the call: a setting leaves them, and of the others it takes no byte
told_after : (w : World) (g : Option Ledger) (q : Request) (lent : List ℕ) (locked : Bool) →
    enters (told_of q (step_of w q lent).lent locked) g ≡ enters (told_of q lent locked) g
unfolding entered_of
told_after w None q lent locked = refl
told_after w (Some g) q lent locked = ap Some (same q)
  where
    same : (q : Request) → entered_of g (told_of q (step_of w q lent).lent locked) ≡ entered_of g (told_of q lent locked)
    same (Set q) = refl
    same Reset = refl
    same PowerLost = refl
    same Update = refl
    same Lock = refl

-- a call on the bytes that are lent: old before it, new after it
pub call_does : (s : Session) (q : Request) (lent : lents.Lent) (old new : List ℕ) (x : Stepped) (locked : Bool) (g : Option Ledger) (r : Outcome) →
    leaving x new ≡ step_of s.world q old → locked ≡ answers_locked x.answer → g ≡ enters (told_of q new locked) s.ledger →
    ((b : List ℕ) → length new ≤ length b →
    Does r b (step_effect (record { world = s.world; ledger = g }) lent (leaving x (take (length new) b)))) →
    Does r new (call_effect s q lent old)
unfolding call_effect told
call_does s q lent old new x locked g r ex el eg d =
    let after : new ≡ (step_of s.world q old).lent = ap (λ (y : Step). y.lent) ex in
    let entering : List ℕ → Option Ledger = λ l. enters (told_of q l locked) s.ledger in
    let entered : g ≡ entering old = eg ∙ ap entering after ∙ told_after s.world s.ledger q old locked in
    rw (← ex, ← el, ← entered) (rw (take-length new) at (d new (omega arith)))

-- a call that shows the first n bytes of the buffer
module _ (n : ℕ) (part old : List ℕ) (h : n ≤ 8192) (o : length old ≡ 8192) (e : length part ≡ length (take n old)) where
  abbrev new : List ℕ
  new = part ++ drop n old

  front_does : (f : List ℕ → Effect) (r : Outcome) → ((b : List ℕ) → n ≤ length b → Does r b (f (take n b))) → Does r new (f part)
  front_does f r d =
      let lent : take n new ≡ part = take_at part (drop n old) n (e ∙ length-take-le n old (omega arith)) in
      rw lent at (d new (omega (arith, length_front old part n e)))

  pub clear_does : (s : Session) (x : Stepped) (y : Step) (r : Outcome) → leaving x part ≡ y →
      ((b : List ℕ) → n ≤ length b → Does r b (step_effect s (Room n) (leaving x (take n b)))) → Does r new (step_effect s (Room n) y)
  clear_does s x y r ex d = rw (← ex) (front_does (λ b. step_effect s (Room n) (leaving x b)) r d)

  -- the bytes w of the word are the given ones
  pub faults_does : (s : Session) (given w : List ℕ) (answer : faults.Answer) (ns : numbers.Numbers) (r : Outcome) → given ≡ w →
      answer ≡ faults_answer s.world.host given (take n old) → part ≡ faults_result s.world.host given (take n old) → ns ≡ numbers_of (answer_numbers answer) →
      ((b : List ℕ) → n ≤ length b → Does r b (answered (Room n) ns (take n b) s)) → Does r new (faults_effect s w (take n old))
  unfolding answered faults_effect
  faults_does s given w answer ns r eg ea er en d = rw (← eg, ← ea, ← er, ← en) (front_does (λ b. answered (Room n) ns b s) r d)

-- ---- `settings`, `image`, `chip`

pub shown_does : (old bytes new : List ℕ) (n : ℕ) (s : Session) → length bytes ≤ 8192 → length old ≡ 8192 → length new ≡ length old → Puts old 0 bytes new n →
    Does (record { reply = Bytes; shown = n; session = s }) new (shown_bytes s bytes)
unfolding shown_bytes Words
shown_does old bytes new n s h o k p =
    let w = whole old bytes new n (omega arith) p in
    record { is = rw w.1 refl; within = omega (arith, w.0); words = omega arith }

-- ---- `pending`

-- the answer of an update with room for every list: that of a sound record is a list
module _ (r : Record) (answer : ListAnswer) (e : answer ≡ update_answer r 1174) where
  sound_listed : sound_of r ≡ true → answer ≡ listed (length (writes_of r)) (bus_bytes (writes_of r))
  sound_listed s = e ∙ always_room r s 1174 (omega arith)

  unsound_refused : sound_of r ≡ false → answer ≡ refused Unsound
  unfolding send_answer
  unsound_refused s = e ∙ rw s refl

  pub pending_listed : (l : Listed) → answer ≡ Ok l → l.n ∷ l.t ∷ [] ≡ pending_numbers r
  unfolding pending_numbers
  pending_listed l is = go (sound_of r) refl
    where
      go : (b : Bool) → sound_of r ≡ b → l.n ∷ l.t ∷ [] ≡ pending_numbers r
      go true s =
          let same : ◌≡◌ {A = ListAnswer} (Ok l) (Ok (record { n = length (writes_of r); t = bus_bytes (writes_of r) })) = sym is ∙ sound_listed s in
          let parts : l ≡ record { n = length (writes_of r); t = bus_bytes (writes_of r) } = cc in
          rw (s, parts) refl
      go false s =
          let other : ◌≡◌ {A = ListAnswer} (Ok l) (Err (Refused Unsound)) = sym is ∙ unsound_refused s in
          cc

  pub pending_refused : (x : NotListed) → answer ≡ Err x → refusal_number Unsound ∷ [] ≡ pending_numbers r
  unfolding pending_numbers
  pending_refused x is = go (sound_of r) refl
    where
      go : (b : Bool) → sound_of r ≡ b → refusal_number Unsound ∷ [] ≡ pending_numbers r
      go true s =
          let other : ◌≡◌ {A = ListAnswer} (Err x) (Ok (record { n = length (writes_of r); t = bus_bytes (writes_of r) })) = sym is ∙ sound_listed s in
          cc
      go false s = rw s refl

-- ---- a command: b is the buffer before it, e after it

-- what the command of a line asks for is there
pub fitting : (l : List ℕ) (c d : Command) → Run c ≡ line_of l → c ≡ d → CommandFits l d
unfolding Fits
fitting l c d e is = subst (CommandFits l) is (fits l (Run c) e)
