-- The invariant of the loop that writes the lengths and the transactions.
-- Assumes nothing.
use mathlib.Core.Path.{◌≡◌, refl, sym, ap, ◌∙◌}
use mathlib.Core.List.{List, [], ◌++◌}
use Prim.Native.Nat.{ℕ, ◌+◌, ◌-◌, ◌*◌, ◌≤◌, ◌<◌}
use native.Mathlib.Omega.{arith}
use Rattle.std.specs.Prelude.{Option, None, Some}
use Rattle.std.specs.Option.{MatchOption, IsSome}
use lib.ListN.{length}
use lib.Seq.{sets}
use Rattle.burst.specs.Burst.{sizes_bytes, put_size, transaction_of}
use Rattle.plan.specs.Plan.{Write, cost}
use Rattle.plan.specs.WriteLaws.{cost_append}
use Rattle.plan.specs.Update.{data_of}
use Rattle.plan.specs.NextLaws.{one}
use Rattle.host.specs.declared.Record.{Record}
use Rattle.writes.specs.Marks.{marks_of}
use Rattle.writes.specs.Found.{Placed, NextWrite}
use Rattle.writes.specs.FoundLaws.{Going, going_start, going_more, going_taken}
use Rattle.writes.specs.Written.{transaction_lengths, transaction_bytes}
use Rattle.writes.specs.PutLaws.{Put, put_start, put_more}
use Rattle.update.specs.Pieces.{planned}

module _ (r : Record) where
  -- i writes are sent: their lengths stand at p and on, their transactions at q and on
  pub record Written (old : List ℕ) (p q i from at : ℕ) (buffer : List ℕ) : Type 0 where
    pub done : List Write
    pub going : Going (marks_of r) i from done
    pub reached : at ≡ q + cost done
    pub small : cost done ≤ 3 * from
    pub put : Put r.header r.settings old p q done buffer

  pub written_start : (old : List ℕ) (p q : ℕ) → Written old p q 0 1 q old
  written_start old p q = record {
    done = [];
    going = going_start (marks_of r) refl;
    reached = omega arith;
    small = omega arith;
    put = put_start r.header r.settings old p q;
  }

  module _ (whole : length r.settings ≡ 908) (old buffer : List ℕ) (first n i k from at start end : ℕ)
      (g : Written old (4 + 2 * first) (4 + 2 * n + 3 * first) k from at buffer) (index : i ≡ first + k) (more : i < n)
      (placed : Placed from start end) (next : NextWrite (marks_of r) from start end) where
    pub written_more : (mid new : List ℕ) → mid ≡ put_size buffer (4 + 2 * i) (end - start + 2) →
        new ≡ sets mid at (transaction_of r.header.bus r.header.pins (data_of r.settings (record { start = start; len = end - start }))) →
        Written old (4 + 2 * first) (4 + 2 * n + 3 * first) (k + 1) end (at + (end - start + 2)) new
    written_more mid new em en =
        let total = cost_append 2 g.done (one start end) in
        record {
          done = g.done ++ one start end;
          going = going_more (marks_of r) k from g.done g.going start end placed next;
          reached = omega (arith, g.reached, total);
          small = omega (arith, g.small, total, placed.behind, placed.some);
          put =
              put_more r.header r.settings old (4 + 2 * first) (4 + 2 * n + 3 * first) g.done buffer g.put start end (4 + 2 * i) at
              (omega (arith, placed.some)) (omega (arith, placed.most, whole)) (omega (arith, index, g.going.count)) (omega arith) g.reached mid new em en;
        }

  pub written_done : (old buffer : List ℕ) (p q i from at count : ℕ) → i ≡ count → Written old p q i from at buffer →
      buffer ≡ sets (sets old p (sizes_bytes (transaction_lengths (planned r count)))) q (transaction_bytes r.header r.settings (planned r count))
  written_done old buffer p q i from at count e g =
      let sent : g.done ≡ planned r count = sym (going_taken (marks_of r) i from g.done g.going) ∙ ap (planned r) e in
      g.put.written
      ∙ ap (λ (ws : List Write). sets (sets old p (sizes_bytes (transaction_lengths ws))) q (transaction_bytes r.header r.settings ws)) sent

-- what is not none is some
pub is_there : {A : Type 0} (o : Option A) (N : Type 0) (S : A → Type 0) → MatchOption o N S → (N → ⊥) → IsSome o
is_there None N S m n = absurd (n m)
is_there (Some x) N S m n = refl
