-- What a command replies has at most 16,399 bytes, since an answer with a buffer has at most `0 n t stored` with three digits for each of
-- them, a buffer at most 16,384 digits, and between and behind them stand a space and LF. An answer without a buffer has at most five numbers
-- of 20 digits, whatever the call.
-- Assumes nothing.
use Rattle.std.specs.Prelude.{◌≡◌, refl, Bool, true, false, cond, Ok, Err, List, [], ◌∷◌, ℕ, ◌^◌, ◌≤◌, ◌<◌, leb, length, take}
use Rattle.std.proofs.Common.{ap, subst, arith, length-take}
use Rattle.std.proofs.Math.ListN.{length-append}
use Rattle.std.specs.List.{All}
use Rattle.map.specs.declared.refusals.Numbers as numbers
use Rattle.map.specs.declared.refusals.Refusal.TheVariants.{BufferShort, Unsound}
use Rattle.map.specs.Refusals.{refusal_number, numbers_in, numbers_of}
use Rattle.map.specs.RefusalLaws.{refusal_small}
use Rattle.burst.specs.Burst.{bus_bytes, data_bytes}
use Rattle.burst.specs.BurstLaws.{bus_data}
use Rattle.calls.specs.declared.Request.{Request}
use Rattle.calls.specs.declared.Request.TheVariants.{Set, Reset, PowerLost, Update, Lock}
use Rattle.host.specs.declared.Header.{Header}
use Rattle.host.specs.declared.Record.{Record}
use Rattle.host.specs.Record.{is_locked, sound_of}
use Rattle.update.specs.Update.{ListAnswer, listed, short, refused, list_numbers, update_numbers, is_listed, list_size, writes_of, Sending, send_answer, send_of, updating, command}
use Rattle.update.specs.BoundLaws.{bus_most, writes_few, size_most}
use Rattle.faults.specs.Faults.{Answer, answer_numbers, faults_answer}
use Rattle.history.specs.declared.World.{World}
use Rattle.history.specs.Step.{call_numbers, send_step, step_of}
use Rattle.text.specs.Text.{address_text, bytes_text}
use Rattle.text.specs.TextLaws.{address_length, bytes_length}
use Rattle.script.specs.declared.command.Command.{Command}
use Rattle.script.specs.declared.command.Command.TheVariants as commands
use Rattle.script.specs.declared.command.Lent as lents
use Rattle.script.specs.declared.command.Lent.TheVariants.{Nothing, Word, Room}
use Rattle.script.specs.Words.{word_at}
use Rattle.script.specs.Bytes.{bytes_of}
use Rattle.script.specs.declared.command.Line.TheVariants.{Run}
use Rattle.script.specs.Lines.{line_of}
use Rattle.script.specs.LineLaws.{BufferFits, CommandFits, Fits, fits}
use Rattle.replies.specs.declared.Reply.{Reply}
use Rattle.replies.specs.declared.Reply.TheVariants.{Bad, Numbers, Lent, Bytes, Same, Differs, Free, Locked}
use Rattle.replies.specs.Replies.{numbers_text, lent_text, differs_word, reply_text, reply_line}
use Rattle.replies.specs.ReplyLaws.{numbers_most, numbers_within, first_within}
use Rattle.session.specs.declared.Session.{Session}
use Rattle.session.specs.declared.outcomes.Outcome.{Outcome}
use Rattle.session.specs.Run.{Effect, Does, Plain, Words, alone, answered, numbered, open_effect, step_effect, call_effect, feed_effect}
use Rattle.session.specs.Run.{faults_effect, shown_bytes, behind_back, compared, pending_effect, marks_reply, lent_of, showing, effect_of}
use Rattle.session.specs.CheckLaws.{compared_plain}

-- ---- answers

alone_most : (n : ℕ) → n < 100 → length (numbers_text (n ∷ [])) ≤ 13
alone_most n h = omega (arith, numbers_most 1 n [] [] h tt)

value_most : (n v : ℕ) → n < 100 → v < 10000 → length (numbers_text (n ∷ v ∷ [])) ≤ 13
value_most n v hn hv = omega (arith, numbers_most 1 n (3 ∷ []) (v ∷ []) hn (hv, tt))

values_most : (n v w : ℕ) → n < 10 → v < 1000 → w < 1000 → length (numbers_text (n ∷ v ∷ w ∷ [])) ≤ 13
values_most n v w hn hv hw = omega (arith, numbers_most 0 n (2 ∷ 2 ∷ []) (v ∷ w ∷ []) hn (hv, (hw, tt)))

three_most : (n v w x : ℕ) → n < 10 → v < 1000 → w < 1000 → x < 1000 → length (numbers_text (n ∷ v ∷ w ∷ x ∷ [])) ≤ 13
three_most n v w x hn hv hw hx = numbers_most 0 n (2 ∷ 2 ∷ 2 ∷ []) (v ∷ w ∷ x ∷ []) hn (hv, (hw, (hx, tt)))

held_most : (l : List ℕ) → length (numbers_text l) ≤ 13 → length (numbers_text (numbers_in (numbers_of l))) ≤ 13
held_most l h = omega (arith, numbers_within l)

-- n and t have three digits at most, and what a buffer that is too short is answered is no longer
record Brief (x : Sending) : Type 0 where
  writes : length x.writes < 1000
  bytes : bus_bytes x.writes < 1000
  short : length (numbers_text (list_numbers x.short)) ≤ 13

send_most : (r : Record) (x : Sending) (size : ℕ) → (sound_of r ≡ true → Brief x) → length (numbers_text (list_numbers (send_answer r x size))) ≤ 13
unfolding send_answer
send_most r x size h = go (sound_of r) (leb (list_size x.writes) size) h
  where
    go : (b c : Bool) → (b ≡ true → Brief x) →
        length (numbers_text (list_numbers (cond b (cond c (listed (length x.writes) (bus_bytes x.writes)) x.short) (refused Unsound)))) ≤ 13
    go true true brief = values_most 0 (length x.writes) (bus_bytes x.writes) (omega arith) (brief refl).writes (brief refl).bytes
    go true false brief = (brief refl).short
    go false c brief = alone_most (refusal_number Unsound) (omega arith)

update_brief : (r : Record) → sound_of r ≡ true → Brief (updating r)
update_brief r e = record {
  writes = omega (arith, bus_most r e, writes_few r e);
  bytes = omega (arith, bus_most r e);
  short = value_most (refusal_number BufferShort) (list_size (writes_of r)) (omega arith) (omega (arith, size_most r e));
}

-- a command has two bytes at most
command_brief : (a : ℕ) (values : List ℕ) (after : Record) → length values ≤ 2 → Brief (command a values after)
command_brief a values after h = record { writes = omega arith; bytes = omega arith; short = alone_most (refusal_number BufferShort) (omega arith) }

-- an update's answer has three digits more, of what it stored
update_most : (w : World) (lent : List ℕ) → length (numbers_text (numbers_in (call_numbers (step_of w Update lent).answer))) ≤ 13
unfolding send_of send_answer
update_most w lent = held_most _ (go (sound_of w.host) refl (leb (list_size (writes_of w.host)) (length lent)))
  where
    answer : Bool → Bool → ListAnswer
    answer b c =
        cond b (cond c (listed (length (writes_of w.host)) (bus_bytes (writes_of w.host))) (short (list_size (writes_of w.host)))) (refused Unsound)

    go : (b : Bool) → sound_of w.host ≡ b → (c : Bool) →
        length (numbers_text (update_numbers (answer b c) (cond (is_listed (answer b c)) (data_bytes (writes_of w.host)) 0))) ≤ 13
    go true e true =
        let brief = update_brief w.host e in
        three_most 0 (length (writes_of w.host)) (bus_bytes (writes_of w.host)) (data_bytes (writes_of w.host)) (omega arith) brief.writes
        brief.bytes (omega (arith, brief.bytes, bus_data (writes_of w.host)))
    go true e false = (update_brief w.host e).short
    go false e c = alone_most (refusal_number Unsound) (omega arith)

command_most : (w : World) (a : ℕ) (values : List ℕ) (after : Record) (lent : List ℕ) → length values ≤ 2 →
    length (numbers_text (numbers_in (call_numbers (send_step w (command a values after) lent).answer))) ≤ 13
unfolding send_of
command_most w a values after lent h =
    held_most _ (send_most w.host (command a values after) (length lent) (λ e. command_brief a values after h))

faults_most : (answer : Answer) → length (numbers_text (answer_numbers answer)) ≤ 13
unfolding answer_numbers
faults_most (Ok g) = values_most 0 _ _ (omega arith) (digit g.opens) (digit g.shorts)
  where
    digit : (b : Bool) → cond b 1 0 < 1000
    digit true = omega arith
    digit false = omega arith
faults_most (Err r) = alone_most (refusal_number r) (refusal_small r)

-- ---- replies

-- the numbers that stand before a buffer are no longer
ShortLent : Reply → Type 0
ShortLent Bad = 0 ≤ 0
ShortLent (Numbers n) = 0 ≤ 0
ShortLent (Lent n) = length (numbers_text (numbers_in n)) ≤ 13
ShortLent Bytes = 0 ≤ 0
ShortLent Same = 0 ≤ 0
ShortLent (Differs a) = 0 ≤ 0
ShortLent Free = 0 ≤ 0
ShortLent Locked = 0 ≤ 0

shown_most : (x : List ℕ) → length x ≤ 8192 → length (bytes_text x) ≤ 16384
shown_most x h = bytes_length 16384 x (omega arith) (omega arith)

words_most : (n : numbers.Numbers) → Words (Numbers n) → length (numbers_text (numbers_in n)) ≤ 104
unfolding Words numbers_in
words_most n h = go n.values h.0 h.1
  where
    go : (l : List ℕ) → length l ≡ 5 → All (λ (v : ℕ). v < 2 ^ 64) l → length (numbers_text (take n.count l)) ≤ 104
    go [] e w = absurd (omega arith)
    go (a ∷ []) e w = absurd (omega arith)
    go (a ∷ b ∷ []) e w = absurd (omega arith)
    go (a ∷ b ∷ c ∷ []) e w = absurd (omega arith)
    go (a ∷ b ∷ c ∷ d ∷ []) e w = absurd (omega arith)
    go (a ∷ b ∷ c ∷ d ∷ x ∷ []) e w =
        let ha : a < 2 ^ 64 = w 0 0 (omega arith) in
        let hb : b < 2 ^ 64 = w 1 0 (omega arith) in
        let hc : c < 2 ^ 64 = w 2 0 (omega arith) in
        let hd : d < 2 ^ 64 = w 3 0 (omega arith) in
        let hx : x < 2 ^ 64 = w 4 0 (omega arith) in
        omega (
          arith,
          first_within n.count (a ∷ b ∷ c ∷ d ∷ x ∷ []),
          numbers_most 19 a (19 ∷ 19 ∷ 19 ∷ 19 ∷ []) (b ∷ c ∷ d ∷ x ∷ []) (omega arith)
              (omega arith, (omega arith, (omega arith, (omega arith, tt)))),
        )
    go (a ∷ b ∷ c ∷ d ∷ x ∷ y ∷ l) e w = absurd (omega arith)

reply_most : (r : Reply) (x : List ℕ) → length x ≤ 8192 → Words r → ShortLent r → length (reply_text r x) ≤ 16398
unfolding reply_text ShortLent lent_text
reply_most Bad x h w s = omega arith
reply_most (Numbers n) x h w s = omega (arith, words_most n w)
reply_most (Lent n) x h w s = omega (arith, length-append (numbers_text (numbers_in n)) (0x20 ∷ bytes_text x), shown_most x h)
reply_most Bytes x h w s = omega (arith, shown_most x h)
reply_most Same x h w s = omega arith
reply_most (Differs a) x h w s = omega (arith, length-append differs_word (address_text a), address_length a)
reply_most Free x h w s = omega arith
reply_most Locked x h w s = omega arith

-- ---- lines

plain_short : (r : Reply) → Plain r → ShortLent r
unfolding Plain ShortLent
plain_short Bad p = omega arith
plain_short (Numbers n) p = omega arith
plain_short (Lent n) p = absurd (omega arith)
plain_short Bytes p = omega arith
plain_short Same p = omega arith
plain_short (Differs a) p = omega arith
plain_short Free p = omega arith
plain_short Locked p = omega arith

-- `free` and `locked` have no numbers
pub marks_plain : (h : Header) → Plain (marks_reply h)
unfolding marks_reply Plain
marks_plain h = go (is_locked h)
  where
    go : (b : Bool) → Plain (cond b Locked Free)
    go true = omega arith
    go false = omega arith

call_short : (w : World) (q : Request) (lent : lents.Lent) (bytes x : List ℕ) (s : Session) → BufferFits q lent →
    ShortLent (answered lent (call_numbers (step_of w q bytes).answer) x s).reply
unfolding BufferFits answered alone ShortLent
call_short w q Nothing bytes x s f = omega arith
call_short w q (Word n) bytes x s f = omega arith
call_short w (Set q) (Room n) bytes x s f = absurd (omega arith)
call_short w Reset (Room n) bytes x s f = command_most w _ _ _ bytes (omega arith)
call_short w PowerLost (Room n) bytes x s f = absurd (omega arith)
call_short w Update (Room n) bytes x s f = update_most w bytes
call_short w Lock (Room n) bytes x s f = absurd (omega arith)

line_short : (s : Session) (c : Command) (l b : List ℕ) → CommandFits l c → ShortLent (effect_of s c l b).reply
unfolding effect_of open_effect call_effect step_effect feed_effect faults_effect shown_bytes behind_back pending_effect numbered alone answered CommandFits ShortLent
line_short s commands.Bad l b f = omega arith
line_short s (commands.Open m bus p) l b f = omega arith
line_short s (commands.Call q lent) l b f = call_short s.world q lent (lent_of lent l b) _ _ f.1
line_short s (commands.Clear n) l b f = command_most s.world _ _ _ (take n b) (omega arith)
line_short s (commands.Feed k) l b f = omega arith
line_short s (commands.Faults k n) l b f = held_most _ (faults_most (faults_answer s.world.host (bytes_of (word_at l k)) (take n b)))
line_short s (commands.Show p) l b f = omega arith
line_short s (commands.Poke p a v) l b f = omega arith
line_short s (commands.Header e v) l b f = omega arith
line_short s commands.Check l b f = plain_short (compared s) (compared_plain s)
line_short s commands.Pending l b f = omega arith
line_short s commands.Marks l b f = plain_short _ (marks_plain s.world.host.header)

-- no command's line of reply has more bytes, its LF counted: `0 n t stored BUFFER` of an update with three digits for each, and 8,192
-- bytes
abbrev pub longest_reply : ℕ
longest_reply = 16399

-- what a command replies that is a line's: it shows no more than the longest buffer, and its numbers are words; `run` promises both
module _ (s : Session) (c : Command) (l b : List ℕ) (is : Run c ≡ line_of l) where
  abbrev effect : Effect
  effect = effect_of s c l b

  line_most : length effect.shown ≤ 8192 → Words effect.reply → length (reply_line effect.reply effect.shown) ≤ longest_reply
  unfolding reply_line Fits
  line_most h w =
      let short = line_short s c l b (fits l (Run c) is) in
      omega (arith, length-append (reply_text effect.reply effect.shown) (0x0A ∷ []), reply_most effect.reply effect.shown h w short)

  -- what the program gives back of it, with the buffer as it then is
  pub record Replies (r : Outcome) (e : List ℕ) : Type 0 where
    pub line : reply_line r.reply (take r.shown e) ≡ reply_line effect.reply effect.shown
    pub effect_is : showing r e ≡ effect
    pub most : length (reply_line effect.reply effect.shown) ≤ longest_reply

  pub replies : (r : Outcome) (e : List ℕ) → length e ≡ 8192 → Does r e effect → Replies r e
  replies r e h d =
      let shown : take r.shown e ≡ effect.shown = ap (λ (x : Effect). x.shown) d.is in
      record {
        line = ap (λ (x : Effect). reply_line x.reply x.shown) d.is;
        effect_is = d.is;
        most =
            line_most (omega (arith, d.within, length-take r.shown e, ap length shown))
            (subst Words (ap (λ (x : Effect). x.reply) d.is) d.words);
      }
