-- Lists of transactions to addresses that may be written, as lists of writes: what a rival is to the laws of the crate plan, and that
-- an update's own list is such a list.
-- Assumes nothing.
use Rattle.std.specs.Prelude.{◌≡◌, true, List, [], ◌∷◌, map, ℕ, ◌+◌, ◌-◌, ◌<◌, length}
use Rattle.std.proofs.Common.{sym, subst, arith}
use Rattle.map.specs.ByteLaws.{writable_below}
use Rattle.burst.specs.Burst.{Burst, transaction_of, burst_of}
use Rattle.burst.specs.BurstLaws.{AllData, burst_back}
use Rattle.plan.specs.Writes.{Good, AllGood}
use Rattle.plan.specs.Update.{write_of}
use Rattle.host.specs.declared.Header.{Header}
use Rattle.host.specs.Record.{may_write}
use Rattle.host.specs.RecordLaws.{may_writable}
use Rattle.chip.specs.FeedLaws.{AllWrites, own_write}
use Rattle.demand.specs.Demand.{Allowed, AllAllowed}

module _ (b p : ℕ) (h : Header) where
  pub all_writes : (xs : List (List ℕ)) → AllAllowed b p h xs → AllWrites b p xs
  all_writes [] w = tt
  all_writes (x ∷ xs) w = (w.0.write, all_writes xs w.1)

  -- a write with data, each byte of which is for an address that may be written
  good_write : (x : Burst) → 0 < length x.bytes → ((i : ℕ) → i < length x.bytes → may_write h (x.start + i) ≡ true) →
      Good (may_write h) 908 (write_of x)
  good_write x some w =
      let end : ℕ = length x.bytes - 1 in
      record {
        some = some;
        fits = omega (arith, writable_below h.member (x.start + end) (may_writable h (x.start + end) (w end (omega arith))));
        each = λ a l u. subst (λ (k : ℕ). may_write h k ≡ true) (omega arith) (w (a - x.start) (omega arith));
      }

  pub all_good : (xs : List (List ℕ)) → AllAllowed b p h xs → AllData (map (burst_of b) xs) → AllGood (may_write h) 908 (map write_of (map (burst_of b) xs))
  all_good [] w d = tt
  all_good (x ∷ xs) w d = (good_write (burst_of b x) d.0 w.0.may, all_good xs w.1 d.1)

  own_allowed : (x : Burst) → p < 4 → Good (may_write h) 908 (write_of x) → Allowed b p h (transaction_of b p x)
  own_allowed x hp g =
      let ten : x.start < 1024 = omega (arith, g.fits) in
      record {
        write = own_write b p x hp ten;
        may =
            subst (λ (y : Burst). (i : ℕ) → i < length y.bytes → may_write h (y.start + i) ≡ true) (sym (burst_back b p x hp ten))
            (λ i l. g.each (x.start + i) (omega arith) (omega arith));
      }

  pub all_own : (xs : List Burst) → p < 4 → AllGood (may_write h) 908 (map write_of xs) → AllAllowed b p h (map (transaction_of b p) xs)
  all_own [] hp g = tt
  all_own (x ∷ xs) hp g = (own_allowed x hp g.0, all_own xs hp g.1)
