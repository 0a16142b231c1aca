-- The player's steps, over plain values. Who cites one names the player, the session or the round's answer that it is about: one that is left
-- open (`_`) is looked for field by field, through all four panels, and took 0.7 GB.
-- Assumes nothing.
use mathlib.Core.Path.{◌≡◌, refl, sym, ap, ◌∙◌, subst}
use Rattle.std.proofs.Common.{Option, Some, Ok, Err}
use mathlib.Core.Bool.{Bool, true, false}
use mathlib.Core.List.{List, []}
use Prim.Native.Nat.{ℕ, ◌≤◌, ◌<◌}
use native.Mathlib.Omega.{arith}
use borrow.Author.Tests.{le-leb, lt-leb}
use lib.ListN.{length, take, replicate, length-take, length-replicate}
use lib.Seq.{take-length, take_all}
use Rattle.map.specs.declared.refusals.Refusal.{Refusal}
use Rattle.map.specs.Refusals.{refusal_number}
use Rattle.faults.specs.declared.Agreement.{Agreement}
use Rattle.faults.specs.Faults.{Answer, faults_answer, faults_result}
use Rattle.host.specs.declared.Record.{Record}
use Rattle.text.specs.Text.{Puts, placed, place_after, decimal_text}
use Rattle.text.specs.TextLaws.{puts_then, puts_as}
use Rattle.script.specs.declared.command.Command.{Command}
use Rattle.script.specs.declared.command.Aside as asides
use Rattle.script.specs.declared.command.Line.{Line}
use Rattle.script.specs.declared.command.Line.TheVariants.{Run, Aside, Panel, Round}
use Rattle.script.specs.Lines.{without_cr, is_silent, line_of}
use Rattle.script.specs.LineLaws.{AsideFits, Fits, fits}
use Rattle.replies.specs.declared.Reply.TheVariants.{Lent}
use Rattle.replies.specs.Replies.{reply_line, echo_line}
use Rattle.pictures.specs.Pictures.{faults_text}
use Rattle.session.specs.declared.outcomes.Outcome.{Outcome}
use Rattle.session.specs.declared.Session.{Session}
use Rattle.session.specs.Run.{Does, effect_of}
use Rattle.session.specs.LengthLaws.{replies}
use Rattle.booth.specs.declared.Booth.{Booth}
use Rattle.booth.specs.declared.BoothRounded.{BoothRounded}
use Rattle.booth.specs.Booth.{current_of, with_current, rounded_booth, round_lent}
use Rattle.player.specs.declared.Player.{Player}
use Rattle.player.specs.Play.{with_booth, session_of, with_session, written, counted, fresh_buffer, effect, command_line, size_by, kept_size, keeping, after_effect, after_command, readings_answer, fault_map_by, fault_map_text, zero_line, aside_line, after_aside, after_panel, rounded, round_shown, round_line, after_round, echo_text, line_text_by, line_text, after_by, after_line, player_after, echoed_text, printed, longest_text, longest_line}
use Rattle.player.specs.PlayLaws.{aside_most, round_most_lem, printed_most}

-- ---- the echo

-- a line that is echoed whole
pub echoed_whole : (l : List ℕ) → length l ≤ 8192 → (length l ≤ length l) × (take (length l) l ≡ take 8192 l)
echoed_whole l h = (omega arith, take-length l ∙ sym (take_all 8192 l h))

module _ (text : List ℕ) (at : ℕ) where
  pub puts_none : Puts text at [] text at
  unfolding placed place_after
  puts_none = record { buffer = refl; place = refl }

  module _ (on silent : Bool) (n : ℕ) (l : List ℕ) (es : silent ≡ is_silent l) where
    pub echo_silent : silent ≡ true → Puts text at (echo_text on n l) text at
    unfolding echo_text
    echo_silent e = rw (sym es ∙ e) puts_none

    pub echo_off : silent ≡ false → on ≡ false → Puts text at (echo_text on n l) text at
    unfolding echo_text
    echo_off e eo = rw (eo, sym es ∙ e) puts_none

    pub echo_line_lem : (part new : List ℕ) (r : ℕ) → silent ≡ false → on ≡ true → part ≡ take 8192 l → Puts text at (echo_line n part) new r →
        Puts text at (echo_text on n l) new r
    unfolding echo_text
    echo_line_lem part new r e eo ep p = rw (eo, sym es ∙ e, ← ep) p

-- ---- the last list

module _ (p : Player) (k : ℕ) (shown : List ℕ) (bus : ℕ) where
  pub keep_short : length shown < k → p ≡ keeping p (Some k) shown bus
  unfolding keeping
  keep_short h = rw (lt-leb k (length shown) h) refl

  pub keep_put : (new : List ℕ) (n : ℕ) → k ≤ length shown → Puts (replicate 4684 0) 0 (take k shown) new n →
      record p { last = Some (record { bytes = new; length = n; bus = bus }) } ≡ keeping p (Some k) shown bus
  unfolding keeping written
  keep_put new n h put = rw (le-leb k (length shown) h, put.buffer, put.place) refl

-- ---- the buffer that is lent

pub fresh_length : (f : List ℕ) → f ≡ fresh_buffer → length f ≡ 8192
unfolding fresh_buffer
fresh_length f e = ap length e ∙ length-replicate {A = ℕ} 8192 0xA5

-- ---- a command: f is the buffer before it and e after it

pub command_played : (p : Player) (s : Session) (c : Command) (l f e : List ℕ) (r : Outcome) (b : Booth) (old new : List ℕ) (at n : ℕ) (k : Option ℕ) (q : Player) →
    f ≡ fresh_buffer → Run c ≡ line_of l → s ≡ current_of p.booth → length e ≡ 8192 → Does r e (effect_of s c l f) → b ≡ with_current p.booth r.session →
    Puts old at (reply_line r.reply (take r.shown e)) new n → k ≡ kept_size c r.reply →
    q ≡ keeping (with_booth p b) k (take r.shown e) r.session.world.host.header.bus →
    (q ≡ after_command p c l) × (Puts old at (command_line p c l) new n × (length (command_line p c l) ≤ longest_text))
unfolding after_command after_effect command_line effect session_of with_session
command_played p s c l f e r b old new at n k q ef is es h d eb put ek eq =
    let said = replies s c l fresh_buffer is r e h (subst (λ (x : List ℕ). Does r e (effect_of s c l x)) ef d) in
    rw (← es) (
      eq ∙ rw (eb, ek) refl ∙ ap (after_effect p c) said.effect_is,
      (puts_as old at _ _ new n said.line put, omega (arith, said.most)),
    )

-- ---- a round: e is the buffer after it, of which the first k bytes were lent

pub round_put : (p : Player) (m limit k : ℕ) (f e : List ℕ) (r : BoothRounded) (old new : List ℕ) (at n : ℕ) (size : Option ℕ) (q : Player) → f ≡ fresh_buffer → length e ≡ 8192 →
    r ≡ rounded_booth p.booth m limit (take k f) → take k e ≡ round_lent p.booth m limit (take k f) →
    Puts old at (reply_line (Lent r.numbers) (take k e)) new n → size ≡ size_by r.numbers → q ≡ keeping (with_booth p r.booth) size (take k e) 0 →
    (q ≡ after_round p m limit k) × (Puts old at (round_line p m limit k) new n × (length (round_line p m limit k) ≤ longest_text))
unfolding after_round round_line rounded round_shown
round_put p m limit k f e r old new at n size q ef h er₀ el₀ put es eq =
    let er = er₀ ∙ ap (λ (x : List ℕ). rounded_booth p.booth m limit (take k x)) ef in
    let el = el₀ ∙ ap (λ (x : List ℕ). round_lent p.booth m limit (take k x)) ef in (
      eq ∙ rw (es, el, er) refl,
      (rw (← er, ← el) put, round_most_lem p m limit k (rw (← el) (omega (arith, length-take k e)))),
    )

-- ---- asides

-- Faults with room for 198 readings
module _ (r : Record) (bytes given readings : List ℕ) (answer : Answer) (eg : given ≡ bytes) (ea : answer ≡ faults_answer r given (replicate 198 0))
    (er : readings ≡ faults_result r given (replicate 198 0)) where
  pub map_read : (g : Agreement) → answer ≡ Ok g → faults_text r.header.member readings ≡ fault_map_text r bytes
  unfolding fault_map_text readings_answer fault_map_by
  map_read g e = rw (← eg, ← ea, ← er, e) refl

  pub map_refused : (x : Refusal) → answer ≡ Err x → decimal_text (refusal_number x) ≡ fault_map_text r bytes
  unfolding fault_map_text readings_answer fault_map_by
  map_refused x e = rw (← eg, ← ea, ← er, e) refl

-- ---- a line

pub run_line : (l : List ℕ) (x : Line) (c : Command) → x ≡ line_of l → x ≡ Run c → Run c ≡ line_of l
run_line l x c e is = sym is ∙ e

pub aside_fits : (l : List ℕ) (x : Line) (a : asides.Aside) → x ≡ line_of l → x ≡ Aside a → AsideFits l a
unfolding Fits
aside_fits l x a e is = fits l (Aside a) (sym is ∙ e)

pub round_fits : (l : List ℕ) (x : Line) (m b k : ℕ) → x ≡ line_of l → x ≡ Round m b k → k ≤ 8192
unfolding Fits
round_fits l x m b k e is = (fits l (Round m b k) (sym is ∙ e)).1

module _ (p : Player) (l : List ℕ) (x : Line) (e : x ≡ line_of l) (q : Player) (old new : List ℕ) (at n : ℕ) where
  -- what `play_line` promises
  abbrev pub PlaysLine : Type 0
  PlaysLine = (q ≡ after_line p l) × (Puts old at (line_text p l) new n × (length (line_text p l) ≤ longest_text))

  pub run_played : (c : Command) → x ≡ Run c →
      (q ≡ after_command p c l) × (Puts old at (command_line p c l) new n × (length (command_line p c l) ≤ longest_text)) → PlaysLine
  unfolding after_line line_text after_by line_text_by
  run_played c is h = rw (sym e ∙ is) h

  pub aside_played : (a : asides.Aside) → x ≡ Aside a → q ≡ after_aside p a → Puts old at (aside_line p a l) new n → PlaysLine
  unfolding after_line line_text after_by line_text_by
  aside_played a is eq put = rw (sym e ∙ is) (eq, (put, aside_most p a l))

  pub panel_played : (k : ℕ) → x ≡ Panel k → q ≡ after_panel p k → Puts old at zero_line new n → PlaysLine
  unfolding after_line line_text after_by line_text_by
  panel_played k is eq put = rw (sym e ∙ is) (eq, (put, omega arith))

  pub round_played : (m b k : ℕ) → x ≡ Round m b k →
      (q ≡ after_round p m b k) × (Puts old at (round_line p m b k) new n × (length (round_line p m b k) ≤ longest_text)) → PlaysLine
  unfolding after_line line_text after_by line_text_by
  round_played m b k is h = rw (sym e ∙ is) h

pub played : (p q r : Player) (l w old mid new : List ℕ) (at next n : ℕ) → w ≡ without_cr l → q ≡ counted p →
    Puts old at (echo_text q.echo q.lines w) mid next → PlaysLine q w (line_of w) refl r mid new next n →
    (r ≡ player_after p l) × (Puts old at (printed p l) new n × (length (printed p l) ≤ longest_line))
unfolding player_after printed echoed_text
played p q r l w old mid new at next n ew eq put line = (
  line.0 ∙ rw (ew, eq) refl,
  (
    puts_as old at _ _ new n (rw (ew, eq) refl) (puts_then old at _ mid next _ new n put line.1.0),
    printed_most p l (rw (ew, eq) at line.1.1),
  ),
)
