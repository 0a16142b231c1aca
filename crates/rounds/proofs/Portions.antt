-- A portion, write by write.
-- Assumes nothing.
use mathlib.Core.Path.{◌≡◌, refl, sym, ap, ◌∙◌, subst}
use mathlib.Core.Logic.{◌⊎◌, inl, inr}
use mathlib.Core.List.{List, [], ◌∷◌, ◌++◌, map, map-append, append_assoc, append-nil}
use Rattle.std.specs.Prelude.{Some, None}
use Prim.Native.Nat.{ℕ, ◌+◌, ◌-◌, ◌*◌, ◌≤◌, ◌<◌}
use Rattle.std.proofs.Common.{min}
use Rattle.std.proofs.Math.Decide.{dec_le}
use native.Mathlib.Omega.{arith}
use lib.ListN.{length, take, drop, length-map, length-append}
use lib.Seq.{take-take}
use Rattle.burst.specs.Burst.{Burst, bus_bytes}
use Rattle.plan.specs.Lists.{All, all_append, all_weaken}
use Rattle.plan.specs.Plan.{Write, cost}
use Rattle.plan.specs.WriteLaws.{cost_append}
use Rattle.plan.specs.NextLaws.{one}
use Rattle.plan.specs.Update.{data_of}
use Rattle.plan.proofs.UpdateLaws.{data_length}
use Rattle.plan.specs.Portion.{cut_to, portion}
use Rattle.plan.proofs.PortionLaws.{portion_whole, portion_cut, portion_none, portion_empty}
use Rattle.host.specs.declared.Record.{Record}
use Rattle.host.proofs.SoundLaws.{Sound}
use Rattle.writes.specs.declared.scan.Write as found
use Rattle.writes.specs.WrittenLaws.{writes_cost}
use Rattle.update.specs.Update.{writes_of}
use Rattle.update.specs.PieceLaws.{writes_are, pending_inside, pending_some}
use Rattle.rounds.specs.Parts.{awaiting, Reached, NextIs, InOrder, Run, Open, Shut, Begun, NextPart, Fits, Sized}

module _ (r : Record) where
  abbrev bursts : List Write → List Burst
  bursts ws = map (data_of r.settings) ws

  -- ---- nothing sent yet

  both : (xs : List Write) → All (λ (w : Write). 1 ≤ w.len) xs → All (λ (w : Write). w.start + w.len ≤ length r.settings) xs → All (Run r.settings) xs
  both [] f g = tt
  both (x ∷ xs) f g = ((f.0, g.0), both xs f.1 g.1)

  pub begun_start : Sound r → (room : ℕ) → Begun r room 0 room []
  begun_start s room = record {
    spent = omega arith;
    sent = tt;
    goes = inl (record {
      rest = awaiting r;
      reached = inl (refl, refl);
      runs = both (awaiting r) (pending_some r s _) (pending_inside r s _);
      is = ap (portion room) (writes_are r s);
    });
  }

  -- ---- the next part

  -- less than three bytes hold no part
  nothing_fits : (left : ℕ) (rest : List Write) → left < 3 → All (Run r.settings) rest → portion left (bursts rest) ≡ []
  nothing_fits left [] h a = portion_empty left
  nothing_fits left (w ∷ rest) h a =
      portion_none left (data_of r.settings w) (bursts rest) (omega (arith, data_length r.settings w a.0.1, a.0.0)) h

  ended : (room from left : ℕ) (ws : List Write) (q : Open r room from left ws) → portion left (bursts q.rest) ≡ [] → portion room (writes_of r) ≡ bursts ws
  ended room from left ws q e = q.is ∙ ap (λ (xs : List Burst). bursts ws ++ xs) e ∙ append-nil (bursts ws)

  pub part_full : (from left : ℕ) → left < 3 → NextPart r from left None
  part_full from left h room ws g = go g.goes
    where
      go : Open r room from left ws ⊎ Shut r room left ws → portion room (writes_of r) ≡ bursts ws
      go (inl q) = ended room from left ws q (nothing_fits left q.rest h q.runs)
      go (inr q) = q.is

  module _ (from left : ℕ) (three : 3 ≤ left) where
    goes_on : (room : ℕ) (ws : List Write) → Begun r room from left ws → Open r room from left ws
    goes_on room ws g = go g.goes
      where
        go : Open r room from left ws ⊎ Shut r room left ws → Open r room from left ws
        go (inl q) = q
        go (inr q) = absurd (omega (arith, q.full))

    pub part_over : NextIs (Reached r from) (Reached r) None → NextPart r from left None
    part_over n room ws g =
        let q = goes_on room ws g in
        ended room from left ws q (ap (λ (xs : List Write). portion left (bursts xs)) (n q.rest q.reached) ∙ portion_empty left)

  module _ (from left start end : ℕ) (three : 3 ≤ left) (n : NextIs (Reached r from) (Reached r) (Some (record { start = start; end = end }))) where
    -- all of the next write fits
    pub part_whole : end - start + 2 ≤ left → NextPart r from left (Some (record { start = start; end = end }))
    part_whole fits room ws g =
        let q = goes_on from left three room ws g in
        let t = n q.rest q.reached in
        let w : Write = record { start = start; len = end - start } in
        let runs : All (Run r.settings) (w ∷ t.0) = subst (All (Run r.settings)) t.1 q.runs in
        let size : length (data_of r.settings w).bytes ≡ end - start = data_length r.settings w runs.0.1 in
        let rest-left : left - (2 + length (data_of r.settings w).bytes) ≡ left - (end - start + 2) = omega (arith, size) in
        record {
          spent = omega (arith, g.spent, fits, cost_append 2 ws (one start end));
          sent = all_append (Run r.settings) ws (one start end) g.sent (runs.0, tt);
          goes = inl (record {
            rest = t.0;
            reached = t.2;
            runs = runs.1;
            is =
                q.is
                ∙ ap (λ (xs : List Write). bursts ws ++ portion left (bursts xs)) t.1
                ∙ ap (λ (xs : List Burst). bursts ws ++ xs) (portion_whole left (data_of r.settings w) (bursts t.0) (omega (arith, size)))
                ∙ ap (λ (k : ℕ). bursts ws ++ (data_of r.settings w ∷ portion k (bursts t.0))) rest-left
                ∙ sym (append_assoc (bursts ws) (data_of r.settings w ∷ []) (portion (left - (end - start + 2)) (bursts t.0)))
                ∙ ap (λ (xs : List Burst). xs ++ portion (left - (end - start + 2)) (bursts t.0)) (sym (map-append (data_of r.settings) ws (one start end)));
          });
        }

    -- the next write is cut to what fits
    pub part_cut : left < end - start + 2 → start < end → NextPart r from left (Some (record { start = start; end = start + (left - 2) }))
    part_cut long some room ws g =
        let q = goes_on from left three room ws g in
        let t = n q.rest q.reached in
        let w : Write = record { start = start; len = end - start } in
        let runs : All (Run r.settings) (w ∷ t.0) = subst (All (Run r.settings)) t.1 q.runs in
        let size : length (data_of r.settings w).bytes ≡ end - start = data_length r.settings w runs.0.1 in
        let len : start + (left - 2) - start ≡ left - 2 = omega arith in
        let cut : cut_to (left - 2) (data_of r.settings w) ≡ data_of r.settings (record { start = start; len = start + (left - 2) - start }) =
        ap (λ (l : List ℕ). record { start = start; bytes = l })
        (take-take (left - 2) (end - start) (drop start r.settings) (omega arith) ∙ ap (λ (k : ℕ). take k (drop start r.settings)) (sym len)) in
        record {
          spent = omega (arith, g.spent, cost_append 2 ws (one start (start + (left - 2))));
          sent = all_append (Run r.settings) ws (one start (start + (left - 2))) g.sent ((omega arith, omega (arith, runs.0.1)), tt);
          goes = inr (record {
            full = omega arith;
            is =
                q.is
                ∙ ap (λ (xs : List Write). bursts ws ++ portion left (bursts xs)) t.1
                ∙ ap (λ (xs : List Burst). bursts ws ++ xs) (portion_cut left (data_of r.settings w) (bursts t.0) (omega (arith, size)) three)
                ∙ ap (λ (x : Burst). bursts ws ++ (x ∷ [])) cut
                ∙ sym (map-append (data_of r.settings) ws (one start (start + (left - 2))));
          });
        }

    -- either
    pub part_some : start < end → NextPart r from left (Some (record { start = start; end = start + min (end - start) (left - 2) }))
    part_some some = go (dec_le (end - start + 2) left)
      where
        at : ℕ → Type 0
        at e = NextPart r from left (Some (record { start = start; end = e }))

        go : Dec (end - start + 2 ≤ left) → at (start + min (end - start) (left - 2))
        go (yes h) = let e : end ≡ start + min (end - start) (left - 2) = omega arith in subst at e (part_whole h)
        go (no h) = let e : start + (left - 2) ≡ start + min (end - start) (left - 2) = omega arith in subst at e (part_cut (omega arith) some)

-- ---- the loops

-- so far a portion has been sent up to the writes ws
pub record Going (r : Record) (room from left : ℕ) (ws : List Write) : Type 0 where
  pub few : 3 * length ws ≤ cost ws
  pub begun : Begun r room from left ws

module _ (r : Record) where
  pub going_start : Sound r → (room : ℕ) → Going r room 0 room []
  going_start s room = record { few = omega arith; begun = begun_start r s room }

  module _ (room from left : ℕ) (ws : List Write) (g : Going r room from left ws) where
    pub going_more : (w : found.Write) → Fits left w → NextPart r from left (Some w) → Going r room w.end (left - (w.end - w.start + 2)) (ws ++ one w.start w.end)
    going_more w f n = record {
      few = omega (arith, g.few, f.some, cost_append 2 ws (one w.start w.end), length-append ws (one w.start w.end));
      begun = n room ws g.begun;
    }

    -- all of it is sent
    pub going_done : NextPart r from left None → Sized (portion room (writes_of r)) (length ws) (room - left)
    going_done n =
        let is = n room ws g.begun in
        let inside = all_weaken (Run r.settings) (λ (w : Write). w.start + w.len ≤ length r.settings) (λ w q. q.1) ws g.begun.sent in
        record {
          count_is = sym (ap length is ∙ length-map ws (data_of r.settings));
          bytes_are = sym (ap bus_bytes is ∙ writes_cost r.settings ws inside ∙ omega (arith, g.begun.spent));
        }

  -- so many writes are counted
  pub record Counting (room from left count : ℕ) : Type 0 where
    pub ws : List Write
    pub counted : length ws ≡ count
    pub going : Going r room from left ws

  pub counting_start : Sound r → (room : ℕ) → Counting room 0 room 0
  counting_start s room = record { ws = []; counted = refl; going = going_start s room }

  module _ (room from left count : ℕ) (c : Counting room from left count) where
    pub counting_more : (w : found.Write) → Fits left w → NextPart r from left (Some w) → Counting room w.end (left - (w.end - w.start + 2)) (count + 1)
    counting_more w f n = record {
      ws = c.ws ++ one w.start w.end;
      counted = length-append c.ws (one w.start w.end) ∙ omega (arith, c.counted);
      going = going_more room from left c.ws c.going w f n;
    }

    pub counting_done : NextPart r from left None → Sized (portion room (writes_of r)) count (room - left)
    counting_done n =
        subst (λ (k : ℕ). Sized (portion room (writes_of r)) k (room - left)) c.counted (going_done room from left c.ws c.going n)
