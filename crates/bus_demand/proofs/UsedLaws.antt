-- "up to four": a place that no call names and every round marks absent is not used, and what stands there makes no difference to the
-- others: `unused_not_read`. Under what holds of a record and its chip it stays as it was: `unused_stays`.
-- Assumes nothing.
use Rattle.std.specs.Prelude.{◌≡◌, refl, Bool, false, cond, ◌&&◌, ℕ, ◌<◌, eqb, length}
use Rattle.std.proofs.Common.{sym, ◌∙◌, true≢false, eqb-true}
use Rattle.std.proofs.Math.Path.{ap, ap₂}
use Rattle.std.proofs.Math.Bool.{true}
use mathlib.Core.List.{List, [], ◌∷◌, ◌++◌}
use Rattle.map.specs.Refusals.{opens}
use Rattle.burst.specs.Burst.{Burst}
use Rattle.update.specs.Update.{ListAnswer, is_listed}
use Rattle.chip.specs.Chip.{feed_of}
use Rattle.rounds.specs.Round.{round_list, part_at, takes, round_parts, round_answer, round_record, round_room}
use Rattle.rounds.specs.AbsentLaws.{parts_same, answer_same}
use Rattle.history.specs.declared.World.{World}
use Rattle.history.specs.Step.{step_of}
use Rattle.demand.specs.Events.{call, part, run}
use Rattle.bus.specs.Bus.{hosts_of, on_bus, accepts, round_world, BusCall, plain, round, bus_step}
use Rattle.bus_demand.specs.BusLists.{bus_run}
use Rattle.bus_demand.specs.Places.{events_at}
use Rattle.bus_demand.proofs.BridgeLaws.{AllHold, projected}

-- the places that these calls use are among those that `used` tells
abbrev pub Uses : (ℕ → Bool) → List BusCall → Type 0
Uses used [] = Unit
Uses used (plain j c ∷ cs) = (used j ≡ true) × Uses used cs
Uses used (round present limit buffer ∷ cs) = ((j : ℕ) → j < 4 → present j ≡ true → used j ≡ true) × Uses used cs

module _ (used : ℕ → Bool) where
  -- worlds that are the same where they are used
  abbrev pub SameUsed : (ℕ → World) → (ℕ → World) → Type 0
  SameUsed w v = (k : ℕ) → k < 4 → used k ≡ true → w k ≡ v k

  round_same : (w v : ℕ → World) → SameUsed w v → (present : ℕ → Bool) (limit size : ℕ) →
      ((j : ℕ) → j < 4 → present j ≡ true → used j ≡ true) → SameUsed (round_world present limit size w) (round_world present limit size v)
  unfolding round_record
  round_same w v e present limit size u k l i =
      ap₂ (λ (answer : ListAnswer) (parts : List (List Burst)). after answer parts (w k))
      (answer_same present (hosts_of w) (hosts_of v) hosts limit size) (parts_same present (hosts_of w) (hosts_of v) hosts limit)
      ∙ ap (after (round_answer present (hosts_of v) limit size) (round_parts present (hosts_of v) limit)) (e k l i)
    where
      hosts : (j : ℕ) → j < 4 → present j ≡ true → hosts_of w j ≡ hosts_of v j
      hosts j h p = ap (λ (x : World). x.host) (e j h (u j h p))

      after : ListAnswer → List (List Burst) → World → World
      after answer parts x = record {
        host = cond (is_listed answer && present k) (takes x.host (part_at parts k)) x.host;
        chip = cond (is_listed answer && on_bus x.chip k) (feed_of x.chip (round_list parts)).chip x.chip;
      }

  -- stay the same there
  pub unused_not_read : (calls : List BusCall) → Uses used calls → (w v : ℕ → World) → SameUsed w v → SameUsed (bus_run w calls) (bus_run v calls)
  unused_not_read [] u w v e = e
  unused_not_read (plain j c ∷ cs) u w v e =
      unused_not_read cs u.1 (bus_step w (plain j c)) (bus_step v (plain j c))
      (λ k l i. ap (λ (x : World). cond (eqb k j) (step_of x c.request c.lent).world x) (e k l i))
  unused_not_read (round present limit buffer ∷ cs) u w v e =
      unused_not_read cs u.1 (bus_step w (round present limit buffer)) (bus_step v (round present limit buffer))
      (round_same w v e present limit (length buffer) u.0)

  -- ---- A place that is not used has no events

  no_event : (k : ℕ) → k < 4 → used k ≡ false → (calls : List BusCall) → Uses used calls → (w : ℕ → World) → events_at k w calls ≡ []
  no_event k l n [] u w = refl
  no_event k l n (plain j c ∷ cs) u w =
      ap₂ ◌++◌ (go (eqb k j) refl) (no_event k l n cs u.1 (bus_step w (plain j c)))
    where
      go : (x : Bool) → eqb k j ≡ x → cond x (call c ∷ []) [] ≡ []
      go true e = absurd (true≢false (sym u.0 ∙ ap used (sym (eqb-true k j e)) ∙ n))
      go false e = refl
  no_event k l n (round present limit buffer ∷ cs) u w =
      ap₂ ◌++◌ (go (accepts present limit (length buffer) w) (present k) refl) (no_event k l n cs u.1 (bus_step w (round present limit buffer)))
    where
      go : (a x : Bool) → present k ≡ x → cond (a && x) (part (round_room present (hosts_of w) limit k) ∷ []) [] ≡ []
      go a true e = absurd (true≢false (sym (u.0 k l e) ∙ n))
      go true false e = refl
      go false false e = refl

  pub unused_stays : (m b p : ℕ → ℕ) → ((k : ℕ) → k < 4 → opens (m k) (b k) (p k) ≡ true) → (s : ℕ → List ℕ) (w : ℕ → World) → AllHold m b p s w →
      (calls : List BusCall) → Uses used calls → (k : ℕ) → k < 4 → used k ≡ false → bus_run w calls k ≡ w k
  unused_stays m b p o s w h calls u k l n =
      (projected m b p o calls s w h k l).world ∙ ap (run (w k)) (no_event k l n calls u w)
