-- The four panels, over plain values.
-- Assumes nothing.
use Rattle.std.proofs.Common.{◌≡◌, refl, ap, ap₂, ◌∙◌, cond, List, [], ◌∷◌, Bool, ℕ, zero, suc, ◌<◌, length, get_or, set, eqb, arith}
use Rattle.map.specs.declared.refusals.Numbers.{Numbers}
use Rattle.history.specs.Step.{call_numbers}
use Rattle.history.specs.declared.World.{World}
use Rattle.rounds.specs.Round.{present_by}
use Rattle.bus.specs.declared.BusRequest.TheVariants.{Round}
use Rattle.bus.specs.declared.BusStepped.{BusStepped}
use Rattle.bus.specs.Bus.{place_of, world_at, call_of, bus_lent, stepped_of}
use Rattle.session.specs.declared.Session.{Session}
use Rattle.booth.specs.declared.Booth.{Booth}
use Rattle.booth.specs.Booth.{no_session, session_at, with_current, selected, panels_in, with_panels, round_call, rounded_booth, round_lent}

-- four sessions by their places
pub sessions_back : (x : List Session) → length x ≡ 4 → x ≡ get_or x 0 no_session ∷ get_or x 1 no_session ∷ get_or x 2 no_session ∷ get_or x 3 no_session ∷ []
sessions_back [] n = absurd (omega arith)
sessions_back (a ∷ []) n = absurd (omega arith)
sessions_back (a ∷ b ∷ []) n = absurd (omega arith)
sessions_back (a ∷ b ∷ c ∷ []) n = absurd (omega arith)
sessions_back (a ∷ b ∷ c ∷ d ∷ []) n = refl
sessions_back (a ∷ b ∷ c ∷ d ∷ y ∷ ys) n = absurd (omega arith)

-- another one at the current place
pub put_current : (x : Booth) → length x.sessions ≡ 4 → (s : Session) → (p : ℕ) → p ≡ place_of x.current →
    ◌≡◌ {A = Booth} (record { sessions = set x.sessions p s; current = x.current }) (with_current x s)
unfolding with_current
put_current x n s p e =
    ap (λ (y : List Session). record { sessions = y; current = x.current })
    (ap₂ (λ (y : List Session) (k : ℕ). set y k s) (sessions_back x.sessions n) e ∙ go (place_of x.current) (omega arith))
  where
    go : (p : ℕ) → p < 4 → set (session_at x 0 ∷ session_at x 1 ∷ session_at x 2 ∷ session_at x 3 ∷ []) p s
        ≡ cond (eqb 0 p) s (session_at x 0) ∷ cond (eqb 1 p) s (session_at x 1) ∷ cond (eqb 2 p) s (session_at x 2) ∷ cond (eqb 3 p) s (session_at x 3) ∷ []
    go zero h = refl
    go (suc zero) h = refl
    go (suc (suc zero)) h = refl
    go (suc (suc (suc zero))) h = refl
    go (suc (suc (suc (suc p)))) h = absurd (omega arith)

-- another one is current
pub select_is : (x : Booth) → length x.sessions ≡ 4 → (k : ℕ) → ◌≡◌ {A = Booth} (record { sessions = x.sessions; current = k }) (selected x k)
unfolding selected
select_is x n k = ap (λ (y : List Session). record { sessions = y; current = k }) (sessions_back x.sessions n)

-- a round: old is the buffer before it, new after it
pub rounded : (x y : Booth) (marks limit : ℕ) (old new : List ℕ) (p : List Bool) (w : List World) (s : BusStepped) (n : Numbers) → p ≡ present_by marks → w ≡ panels_in x →
    s ≡ stepped_of w (call_of (Round p limit) old) → new ≡ bus_lent (world_at w) (call_of (Round p limit) old) → n ≡ call_numbers s.answer → y ≡ with_panels x s.panels →
    (record { numbers = n; booth = y } ≡ rounded_booth x marks limit old) × (new ≡ round_lent x marks limit old)
unfolding round_call rounded_booth round_lent
rounded x y marks limit old new p w s n ep ew es el en ey = (rw (en, ey, es, ew, ep) refl, rw (el, ew, ep) refl)
