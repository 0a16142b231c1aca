-- The loop that counts the plan's writes.
-- Assumes nothing.
use mathlib.Core.Path.{◌≡◌, refl, sym, ap, ◌∙◌}
use mathlib.Core.List.{List, [], ◌++◌}
use Prim.Native.Nat.{ℕ, ◌+◌, ◌-◌, ◌*◌, ◌≤◌}
use native.Mathlib.Omega.{arith}
use lib.ListN.{length}
use Rattle.plan.specs.Plan.{Mark, clean, Write, cost}
use Rattle.plan.specs.WriteLaws.{cost_append}
use Rattle.plan.specs.NextLaws.{one, Quiet}
use Rattle.writes.specs.Found.{Placed, NextWrite, Small, Counted}
use Rattle.writes.specs.FoundLaws.{Going, going_start, going_more, going_done}

-- where the images are whole, what is counted is the plan's
pub record Planned (mark : ℕ → Mark) (writes bytes from : ℕ) : Type 0 where
  pub done : List Write
  pub going : Going mark writes from done
  pub total : bytes ≡ cost done

module _ (Whole : Type 0) (mark : ℕ → Mark) where
  pub record Counting (writes bytes from : ℕ) : Type 0 where
    pub below : from ≤ 908
    pub few : 3 * writes ≤ bytes
    pub room : bytes ≤ 3 * from
    pub planned : Whole → Planned mark writes bytes from

  pub counting_start : mark 0 ≡ clean → Counting 0 0 1
  counting_start e = record {
    below = omega arith;
    few = omega arith;
    room = omega arith;
    planned = λ w. record { done = []; going = going_start mark e; total = refl };
  }

  module _ (writes bytes from : ℕ) (c : Counting writes bytes from) where
    pub counting_more : (start end : ℕ) → Placed from start end → (Whole → NextWrite mark from start end) →
        Counting (writes + 1) (bytes + (end - start + 2)) end
    counting_more start end p n = record {
      below = p.most;
      few = omega (arith, c.few, p.some);
      room = omega (arith, c.room, p.behind, p.some);
      planned = λ w.
          let d = c.planned w in
          record {
            done = d.done ++ one start end;
            going = going_more mark writes from d.done d.going start end p (n w);
            total = omega (arith, d.total, cost_append 2 d.done (one start end));
          };
    }

    pub counting_small : Small writes bytes
    counting_small = record { few = c.few; most = omega (arith, c.room, c.below) }

    pub counting_done : (Whole → Quiet mark from 908) → Whole → Counted mark writes bytes
    counting_done q w =
        let d = c.planned w in
        let p = going_done mark writes from d.done d.going (q w) in
        record { count_is = d.going.count ∙ ap length (sym p); bytes_are = d.total ∙ ap cost (sym p) }
