-- Laws of Booth.antt: what a line does to the current panel it does to no other, and `panel` changes none.
-- Assumes nothing.
use Rattle.std.specs.Prelude.{◌≡◌, refl, cond, List, [], ◌∷◌, ℕ, zero, suc, ◌<◌, eqb, min, get_or}
use Rattle.std.proofs.Common.{ap, ◌∙◌, arith}
use borrow.Author.Tests.{eq-eqb}
use Rattle.session.specs.declared.Session.{Session}
use Rattle.booth.specs.declared.Booth.{Booth}
use Rattle.bus.specs.Bus.{place_of}
use Rattle.booth.specs.Booth.{no_session, session_at, current_of, with_current, selected}

-- a function of the place, at each place
pub four : {A : Type 0} (none : A) (f : ℕ → A) (k : ℕ) → k < 4 → get_or (f 0 ∷ f 1 ∷ f 2 ∷ f 3 ∷ []) k none ≡ f k
four none f zero h = refl
four none f (suc zero) h = refl
four none f (suc (suc zero)) h = refl
four none f (suc (suc (suc zero))) h = refl
four none f (suc (suc (suc (suc k)))) h = absurd (omega arith)

-- the current place has the session that was put there, and every other place the one that it had
pub current_put : (x : Booth) (s : Session) (k : ℕ) → k < 4 → session_at (with_current x s) k ≡ cond (eqb k (place_of x.current)) s (session_at x k)
unfolding with_current
current_put x s k h =
    let put : ℕ → Session = λ j. cond (eqb j (place_of x.current)) s (session_at x j) in
    let there : min k 3 ≡ k = omega arith in
    four no_session put (min k 3) (omega arith) ∙ ap put there

-- what was put is what the next line finds
pub current_back : (x : Booth) (s : Session) → current_of (with_current x s) ≡ s
unfolding current_of with_current
current_back x s =
    let k : ℕ = place_of x.current in
    let put : ℕ → Session = λ j. cond (eqb j k) s (session_at x j) in
    four no_session put k (omega arith) ∙ rw (eq-eqb k k refl) refl

-- `panel` moves no session, and the panel that it names is the current one
pub selected_stays : (x : Booth) (j k : ℕ) → session_at (selected x j) k ≡ session_at x k
unfolding selected
selected_stays x j k =
    let same : min (min k 3) 3 ≡ min k 3 = omega arith in
    four no_session (session_at x) (min k 3) (omega arith) ∙ ap (λ (i : ℕ). get_or x.sessions i no_session) same

pub selected_is : (x : Booth) (k : ℕ) → current_of (selected x k) ≡ session_at x k
unfolding current_of selected
selected_is x k = selected_stays x k k
