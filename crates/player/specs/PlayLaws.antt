-- Laws of Play.antt: `list` shows the last list whole; what an aside or a round prints has no more bytes than the longest line of an update,
-- and no line prints more than 24,603.
-- Assumes nothing.
use Rattle.std.specs.Prelude.{◌≡◌, Bool, true, false, cond, not, ◌&&◌, List, [], ◌∷◌, ◌++◌, Option, Some, None, Ok, Err, ℕ, ◌+◌, ◌*◌, ◌^◌, ◌≤◌, ◌<◌, ltb, eqb, min, get_or, length, take, replicate}
use Rattle.std.proofs.lemmas.List.{length-replicate}
use Rattle.std.proofs.Common.{ap, arith, lt-ltb, le-ltb, le-leb, length-append, length-take, length-take-le}
use Rattle.std.proofs.Math.Decide.{dec_lt}
use Rattle.map.specs.declared.refusals.Numbers as numbers
use Rattle.map.specs.Refusals.{numbers_in}
use Rattle.map.specs.RefusalLaws.{refusal_small}
use Rattle.faults.specs.Faults.{Answer}
use Rattle.history.specs.declared.World.{World}
use Rattle.history.specs.declared.Ledger.{Ledger}
use Rattle.text.specs.Text.{placed, place_after, decimal_text, bytes_text}
use Rattle.text.specs.TextLaws.{placed_room, after_room, decimal_length, bytes_length}
use Rattle.script.specs.declared.command.Part.{Part}
use Rattle.script.specs.declared.command.Part.TheVariants.{Settings, Image, Chip}
use Rattle.script.specs.declared.command.Aside as asides
use Rattle.script.specs.declared.command.Aside.TheVariants.{Silent, Echo, Lamps, FaultMap, Diff, List as LastList}
use Rattle.script.specs.Words.{word_at}
use Rattle.script.specs.Bytes.{bytes_of}
use Rattle.script.specs.Lines.{without_cr, is_silent}
use Rattle.replies.specs.Replies.{numbers_text, lent_text, reply_text, reply_line, echo_line}
use Rattle.listing.specs.Show.{list_text}
use Rattle.listing.specs.ShowLaws.{list_short}
use Rattle.pictures.specs.PictureLaws.{lamps_most, faults_most, differences_most}
use Rattle.session.specs.declared.Session.{Session}
use Rattle.booth.specs.RoundLaws.{round_numbers, round_list_lem}
use Rattle.player.specs.declared.Player.{Player}
use Rattle.player.specs.declared.Written.{Written}
use Rattle.player.specs.Play.{with_booth, written, counted_from, counted, session_of, fresh_buffer, size_by, rounded, round_shown, round_line, after_round, lamps_of, fault_map_by, fault_map_text, differences_by, differences_of, last_list_text, keeping, aside_line, echo_text, line_text, echoed_text, printed, longest_text, longest_line}

-- ---- asides

lamps_of_lem : (w : World) (part : Part) → length (lamps_of w part) ≤ 208
unfolding lamps_of
lamps_of_lem w Settings = lamps_most _ _
lamps_of_lem w Image = lamps_most _ _
lamps_of_lem w Chip = lamps_most _ _

fault_map : (m : ℕ) (answer : Answer) (readings : List ℕ) → length (fault_map_by m answer readings) ≤ 208
unfolding fault_map_by
fault_map m (Ok g) readings = faults_most m readings
fault_map m (Err r) readings = omega (arith, decimal_length 1 _ (refusal_small r))

differences_by_lem : (registers : List ℕ) (ledger : Option Ledger) → length (differences_by registers ledger) ≤ 6939
unfolding differences_by
differences_by_lem registers (Some g) = differences_most _ _ _
differences_by_lem registers None = omega arith

differences_of_lem : (s : Session) → length (differences_of s) ≤ 6939
unfolding differences_of
differences_of_lem s = differences_by_lem s.world.chip.registers s.ledger

-- a list of at most 4,684 bytes
last_list : (last : Option Written) → length (last_list_text last) ≤ 14063
unfolding last_list_text
last_list None = omega arith
last_list (Some w) = omega (arith, list_short w.bus (take (min w.length 4684) w.bytes), length-take (min w.length 4684) w.bytes)

-- a list that has room is kept whole
kept_whole : (xs : List ℕ) (k : ℕ) → length xs ≡ k → k ≤ 4684 → take (min (place_after 4684 0 xs) 4684) (placed (replicate 4684 0) 0 xs) ≡ xs
kept_whole xs k size fits =
    let none : List ℕ = replicate 4684 0 in
    let room : 0 + length xs ≤ length none = omega (arith, length-replicate {A = ℕ} 4684 0) in
    let place : place_after 4684 0 xs ≡ 0 + length xs = after_room 4684 0 xs (omega arith) in
    let end : min (0 + length xs) 4684 ≡ 0 + length xs = omega arith in
    rw (place, end) (placed_room none 0 xs room)

-- "`list` shows the last list that a call wrote": behind a call that left k bytes of one, all of it, with the heads of that bus
pub list_shows : (p : Player) (k : ℕ) (shown l : List ℕ) (bus : ℕ) → k ≤ 4684 → k ≤ length shown →
    aside_line (keeping p (Some k) shown bus) LastList l ≡ list_text bus (take k shown) ++ (0x0A ∷ [])
unfolding aside_line last_list_text keeping written
list_shows p k shown l bus fits there =
    rw (le-leb k (length shown) there)
    (ap (λ (xs : List ℕ). list_text bus xs ++ (0x0A ∷ [])) (kept_whole (take k shown) k (length-take-le k shown there) fits))

pub aside_most : (p : Player) (x : asides.Aside) (l : List ℕ) → length (aside_line p x l) ≤ longest_text
unfolding aside_line fault_map_text
aside_most p Silent l = omega arith
aside_most p (Echo on) l = omega arith
aside_most p (Lamps part) l = omega (arith, length-append (lamps_of (session_of p).world part) (0x0A ∷ []), lamps_of_lem (session_of p).world part)
aside_most p (FaultMap k) l =
    let text : List ℕ = fault_map_text (session_of p).world.host (bytes_of (word_at l k)) in
    let most : length text ≤ 208 = fault_map (session_of p).world.host.header.member _ _ in
    omega (arith, length-append text (0x0A ∷ []), most)
aside_most p Diff l = omega (arith, length-append (differences_of (session_of p)) (0x0A ∷ []), differences_of_lem (session_of p))
aside_most p LastList l = omega (arith, length-append (last_list_text p.last) (0x0A ∷ []), last_list p.last)

-- ---- a round

-- of which at most 8,192 bytes are shown
pub round_most_lem : (p : Player) (m limit n : ℕ) → length (round_shown p m limit n) ≤ 8192 → length (round_line p m limit n) ≤ longest_text
unfolding round_line rounded reply_line reply_text lent_text
round_most_lem p m limit n h =
    let numbers : List ℕ = numbers_text (numbers_in (rounded p m limit n).numbers) in
    let shown : List ℕ = round_shown p m limit n in
    omega (
      arith,
      length-append (numbers ++ (0x20 ∷ bytes_text shown)) (0x0A ∷ []),
      length-append numbers (0x20 ∷ bytes_text shown),
      round_numbers p.booth m limit (take n fresh_buffer),
      bytes_length 16384 shown (omega arith) (omega arith),
    )

-- the list that an answer tells of has as many bytes as its n and t say
size_within : (x : numbers.Numbers) (k : ℕ) → size_by x ≡ Some k → k ≡ 4 + 2 * get_or x.values 1 0 + get_or x.values 2 0
unfolding size_by
size_within x k = go (eqb (get_or x.values 0 0) 0 && (ltb (get_or x.values 1 0) 65536 && ltb (get_or x.values 2 0) 65536))
  where
    go : (b : Bool) → cond b (Some (4 + 2 * get_or x.values 1 0 + get_or x.values 2 0)) None ≡ Some k → k ≡ 4 + 2 * get_or x.values 1 0 + get_or x.values 2 0
    go true e = cc
    go false e = cc

-- "`list` shows the last list that a call wrote": behind an accepted round, all of it, with the heads of bus 0
pub round_shows : (p : Player) (m limit n : ℕ) (l : List ℕ) (k : ℕ) → size_by (rounded p m limit n).numbers ≡ Some k → k ≤ length (round_shown p m limit n) →
    aside_line (after_round p m limit n) LastList l ≡ list_text 0 (take k (round_shown p m limit n)) ++ (0x0A ∷ [])
unfolding after_round with_booth rounded
round_shows p m limit n l k some there =
    let most = round_list_lem p.booth m limit (take n fresh_buffer) in
    rw some
    (list_shows (with_booth p (rounded p m limit n).booth) k (round_shown p m limit n) l 0
    (omega (arith, size_within (rounded p m limit n).numbers k some)) there)

-- ---- any line

counted_most : (n : ℕ) → counted_from n < 10 ^ 10
unfolding counted_from
counted_most n = go (dec_lt n 4294967295)
  where
    go : Dec (n < 4294967295) → cond (ltb n 4294967295) (n + 1) 4294967295 < 10 ^ 10
    go (yes k) = rw (lt-ltb n 4294967295 k) (omega arith)
    go (no k) = rw (le-ltb n 4294967295 (omega arith)) (omega arith)

echo_most : (on : Bool) (n : ℕ) (l : List ℕ) → n < 10 ^ 10 → length (echo_text on n l) ≤ 8204
unfolding echo_text echo_line
echo_most on n l h = go (not (is_silent l) && on)
  where
    go : (b : Bool) → length (cond b (echo_line n (take 8192 l)) []) ≤ 8204
    go true =
        omega (
          arith,
          length-append (decimal_text n) (0x20 ∷ (take 8192 l ++ (0x0A ∷ []))),
          decimal_length 9 n h,
          length-append (take 8192 l) (0x0A ∷ []),
          length-take 8192 l,
        )
    go false = omega arith

-- a line whose own text is no longer than a round's
pub printed_most : (p : Player) (l : List ℕ) → length (line_text (counted p) (without_cr l)) ≤ longest_text → length (printed p l) ≤ longest_line
unfolding printed echoed_text counted
printed_most p l h =
    omega (
      arith,
      length-append (echo_text p.echo (counted_from p.lines) (without_cr l)) (line_text (counted p) (without_cr l)),
      echo_most p.echo (counted_from p.lines) (without_cr l) (counted_most p.lines),
    )
