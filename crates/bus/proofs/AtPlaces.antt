-- What stands at a place, by its number, and a call there.
-- Assumes nothing.
use Rattle.std.proofs.Common.{◌≡◌, refl, sym, ap, ap₂, ◌∙◌, subst, Bool, cond, List, [], ◌∷◌, ℕ, zero, suc, ◌<◌, ◌≤◌, length, get_or, set, min, eqb, arith}
use Rattle.calls.specs.declared.Request.{Request}
use Rattle.history.specs.declared.World.{World}
use Rattle.history.specs.declared.CallAnswer as answers
use Rattle.history.specs.declared.Stepped.{Stepped}
use Rattle.history.specs.Step.{Step, leaving, step_of}
use Rattle.rounds.specs.Round.{present_at}
use Rattle.bus.specs.declared.BusRequest.{BusRequest}
use Rattle.bus.specs.declared.BusRequest.TheVariants.{Plain, Round}
use Rattle.bus.specs.declared.BusRounded.{BusRounded}
use Rattle.bus.specs.declared.BusStepped.{BusStepped}
use Rattle.bus.specs.Bus.{plain, bus_step, bus_lent, no_world, world_at, panels_of, place_of, call_of, rounded_of, stepped_of}

-- four worlds by their places
pub panels_back : (x : List World) → length x ≡ 4 → x ≡ panels_of (world_at x)
panels_back [] n = absurd (omega arith)
panels_back (a ∷ []) n = absurd (omega arith)
panels_back (a ∷ b ∷ []) n = absurd (omega arith)
panels_back (a ∷ b ∷ c ∷ []) n = absurd (omega arith)
panels_back (a ∷ b ∷ c ∷ d ∷ []) n = refl
panels_back (a ∷ b ∷ c ∷ d ∷ y ∷ ys) n = absurd (omega arith)

-- another one at one of them
set_place : (x : List World) → length x ≡ 4 → (p : ℕ) → p < 4 → (v : ℕ → World) → set x p (v p) ≡ panels_of (λ k. cond (eqb k p) (v k) (world_at x k))
set_place x n p h v = ap (λ (y : List World). set y p (v p)) (panels_back x n) ∙ go p h
  where
    go : (p : ℕ) → p < 4 → set (panels_of (world_at x)) p (v p) ≡ panels_of (λ k. cond (eqb k p) (v k) (world_at x k))
    go zero h = refl
    go (suc zero) h = refl
    go (suc (suc zero)) h = refl
    go (suc (suc (suc zero))) h = refl
    go (suc (suc (suc (suc p)))) h = absurd (omega arith)

-- a call at one place
pub plain_is : (x : List World) → length x ≡ 4 → (q : Request) (old new : List ℕ) (j p : ℕ) (s : Stepped) → p ≡ place_of j →
    leaving s new ≡ step_of (get_or x p no_world) q old →
    (◌≡◌ {A = BusStepped} (record { answer = s.answer; panels = set x p s.world }) (stepped_of x (call_of (Plain j q) old)))
    × (new ≡ bus_lent (world_at x) (call_of (Plain j q) old))
unfolding stepped_of
plain_is x n q old new j p s ep es =
    let there : p ≡ min (place_of j) 3 = omega (arith, ep) in
    let e : leaving s new ≡ step_of (world_at x (place_of j)) q old = es ∙ ap (λ (k : ℕ). step_of (get_or x k no_world) q old) there in
    let answers-are : s.answer ≡ (step_of (world_at x (place_of j)) q old).answer = ap (λ (y : Step). y.answer) e in
    let world-is : s.world ≡ (step_of (world_at x (place_of j)) q old).world = ap (λ (y : Step). y.world) e in (
      ap₂ (λ (a : answers.CallAnswer) (y : List World). record { answer = a; panels = y }) answers-are
          (ap₂ (set x) ep world-is
          ∙ set_place x n (place_of j) (omega arith) (λ k. (step_of (world_at x k) q old).world)),
      ap (λ (y : Step). y.lent) e,
    )

-- a round as a bus call
pub step_round : (x : List World) (r : BusRequest) (old : List ℕ) (present : List Bool) (limit : ℕ) (u : BusRounded) → r ≡ Round present limit →
    u ≡ rounded_of x (present_at present) limit (length old) →
    ◌≡◌ {A = BusStepped} (record { answer = answers.TheVariants.List u.answer; panels = u.panels }) (stepped_of x (call_of r old))
unfolding stepped_of rounded_of
step_round x r old present limit u e f =
    ap (λ (y : BusRounded). record { answer = answers.TheVariants.List y.answer; panels = y.panels }) f
    ∙ ap (λ (z : BusRequest). stepped_of x (call_of z old)) (sym e)
