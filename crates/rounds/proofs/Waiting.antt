-- The writes that wait, one after the other: that of 000h, then the plan's.
-- Assumes nothing.
use mathlib.Core.Path.{◌≡◌, refl, sym, ap, ◌∙◌, subst}
use mathlib.Core.Logic.{inl, inr}
use mathlib.Core.List.{List, [], ◌++◌, append_assoc}
use Rattle.std.specs.Prelude.{Option, Some, None, IfSome, MatchOption}
use Prim.Native.Nat.{ℕ, ◌+◌, ◌%◌, ◌≤◌, ◌<◌}
use native.Mathlib.Omega.{arith}
use borrow.Author.Tests.{eq-eqb, ne_eqb}
use lib.ListN.{length, get_or, drop}
use lib.Seq.{take-length, drop-length, drop-append_seam, drop-nil}
use Rattle.plan.specs.Plan.{Write, plan}
use Rattle.plan.specs.NextLaws.{one, Quiet, finished_prefix}
use Rattle.plan.specs.Update.{value_at, on_by}
use Rattle.host.specs.declared.Record.{Record}
use Rattle.writes.specs.Marks.{chip_view, marks_of}
use Rattle.writes.specs.declared.scan.Write as found
use Rattle.writes.specs.Found.{Placed, NextWrite}
use Rattle.writes.specs.FoundLaws.{Going, going_start, going_more, going_done}
use Rattle.update.specs.Pieces.{enable_count, enable_writes, plan_count, planned, pending}
use Rattle.update.specs.PieceLaws.{enable_same, enable_other}
use Rattle.rounds.specs.Parts.{awaiting, Past, Reached, NextIs, InOrder}

module _ (r : Record) where
  -- ---- the plan's

  -- settings that are off have none
  pub planned_off : (from : ℕ) → (get_or r.settings 0 0 % 2 ≡ 1 → ⊥) → NextIs (Past r from) (Past r) None
  unfolding plan_count
  planned_off from n rest p = p.rest_is ∙ none p.count
    where
      none : (k : ℕ) → drop k (planned r (plan_count r)) ≡ []
      none k = ap (λ (j : ℕ). drop k (planned r j)) off ∙ drop-nil k
        where
          off : plan_count r ≡ 0
          off = rw (ne_eqb _ 1 n) refl

  -- settings that are on have all of them
  all_planned : get_or r.settings 0 0 % 2 ≡ 1 → planned r (plan_count r) ≡ plan (marks_of r) 908
  unfolding plan_count
  all_planned o = let on : plan_count r ≡ length (plan (marks_of r) 908) = rw (eq-eqb _ 1 o) refl in ap (planned r) on ∙ take-length (plan (marks_of r) 908)

  pub planned_on : (from : ℕ) → get_or r.settings 0 0 % 2 ≡ 1 → (next : Option found.Write) → IfSome next (λ w. Placed from w.start w.end) →
      MatchOption next (Quiet (marks_of r) from 908) (λ w. NextWrite (marks_of r) from w.start w.end) → NextIs (Past r from) (Past r) next
  planned_on from o None p n = λ rest q.
      q.rest_is
      ∙ ap (drop q.count) (all_planned o ∙ going_done (marks_of r) q.count from q.done q.going n)
      ∙ ap (λ (k : ℕ). drop k q.done) q.going.count
      ∙ drop-length q.done
  planned_on from o (Some w) p n = λ rest q. behind w rest q (going_more (marks_of r) q.count from q.done q.going w.start w.end p n)
    where
      behind : (w : found.Write) (rest : List Write) (q : Past r from rest) → Going (marks_of r) (q.count + 1) w.end (q.done ++ one w.start w.end) →
          (others : List Write) × (rest ≡ one w.start w.end ++ others) × Past r w.end others
      behind w rest q g =
          let t = finished_prefix (marks_of r) w.end 908 (q.done ++ one w.start w.end) g.finished g.most in
          let is : plan (marks_of r) 908 ≡ q.done ++ (one w.start w.end ++ t.0) = t.1 ∙ append_assoc q.done (one w.start w.end) t.0 in (
            t.0,
            q.rest_is ∙ ap (drop q.count) (all_planned o ∙ is) ∙ ap (λ (k : ℕ). drop k (q.done ++ (one w.start w.end ++ t.0))) q.going.count
                ∙ drop-append_seam q.done (one w.start w.end ++ t.0),
            record {
              count = q.count + 1;
              done = q.done ++ one w.start w.end;
              going = g;
              rest_is =
                  sym (ap (drop (q.count + 1)) (all_planned o ∙ t.1) ∙ ap (λ (k : ℕ). drop k ((q.done ++ one w.start w.end) ++ t.0)) g.count
                  ∙ drop-append_seam (q.done ++ one w.start w.end) t.0);
            },
          )

  -- ---- that of 000h first

  abbrev count : ℕ
  count = enable_count (on_by (value_at r.settings)) (chip_view r)

  begins : Past r 1 (planned r (plan_count r))
  begins = record { count = 0; done = []; going = going_start (marks_of r) refl; rest_is = refl }

  no_enable : 0 ≡ count → awaiting r ≡ planned r (plan_count r)
  unfolding enable_writes
  no_enable e = ap (pending r) (sym e)

  enables : 1 ≡ count → awaiting r ≡ one 0 1 ++ planned r (plan_count r)
  unfolding enable_writes
  enables e = ap (pending r) (sym e)

  -- a scan that is past it, or has nothing of it to send
  from_past : (from next : ℕ) → ((rest : List Write) → Reached r from rest → Past r next rest) → (w : Option found.Write) → IfSome w InOrder →
      NextIs (Past r next) (Past r) w → NextIs (Reached r from) (Reached r) w
  from_past from next past None o n = λ rest q. n rest (past rest q)
  from_past from next past (Some w) o n = λ rest q. let t = n rest (past rest q) in (t.0, t.1, inr (omega (arith, o.0), t.2))

  pub waiting_past : (from : ℕ) → 0 < from → (next : Option found.Write) → IfSome next InOrder → NextIs (Past r from) (Past r) next →
      NextIs (Reached r from) (Reached r) next
  waiting_past from z = from_past from from past
    where
      past : (rest : List Write) → Reached r from rest → Past r from rest
      past rest (inl q) = absurd (omega (arith, q.0))
      past rest (inr q) = q.1

  -- it is to be sent
  pub waiting_enables : (from : ℕ) → from ≡ 0 → (get_or r.settings 0 0 % 2 ≡ get_or r.image 0 0 % 2 → ⊥) →
      NextIs (Reached r from) (Reached r) (Some (record { start = 0; end = 1 }))
  waiting_enables from z n rest q = (planned r (plan_count r), is q, inr (omega arith, begins))
    where
      is : Reached r from rest → rest ≡ one 0 1 ++ planned r (plan_count r)
      is (inl q) = q.1 ∙ enables (enable_other r.settings r.image n).0
      is (inr q) = absurd (omega (arith, q.0))

  -- it is not
  pub waiting_starts : (from : ℕ) → from ≡ 0 → get_or r.settings 0 0 % 2 ≡ get_or r.image 0 0 % 2 → (next : Option found.Write) → IfSome next InOrder →
      NextIs (Past r 1) (Past r) next → NextIs (Reached r from) (Reached r) next
  waiting_starts from z e = from_past from 1 past
    where
      past : (rest : List Write) → Reached r from rest → Past r 1 rest
      past rest (inl q) = subst (Past r 1) (sym (q.1 ∙ no_enable (enable_same r.settings r.image e).0)) begins
      past rest (inr q) = absurd (omega (arith, q.0))
