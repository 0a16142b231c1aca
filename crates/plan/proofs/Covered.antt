-- From a list on the bus to a list of writes that sends every dirty address: the transactions that the chip heard. With the law
-- `covered` a claim that no rival is cheaper is a claim about lists of writes and marks alone.
-- Assumes nothing.
use Rattle.std.specs.Prelude.{◌≡◌, ◌⊎◌, Bool, ℕ, ◌+◌, ◌≤◌, ◌<◌}
use Rattle.std.proofs.Math.Path.{refl, ap}
use Rattle.std.proofs.Common.{sym, ◌∙◌}
use Rattle.std.proofs.Math.Logic.{inl, inr}
use Rattle.std.proofs.Math.Bool.{true, false}
use Rattle.std.proofs.lemmas.Bool.{false≢true, eqb-false}
use mathlib.Core.List.{List, [], ◌∷◌, map}
use Rattle.std.proofs.Math.Decide.{dec_lt}
use native.Mathlib.Omega.{arith}
use Rattle.std.proofs.Math.ListN.{length}
use Rattle.burst.specs.Burst.{Burst}
use Rattle.plan.specs.Lists.{All}
use Rattle.plan.specs.Plan.{Write, cost_by}
use Rattle.plan.specs.Writes.{Good, AllGood, Inside, Sent, SendsAll}
use Rattle.plan.specs.Update.{Agree, marks_for, on_by, View, same_at, seen, write_of, enable_cost}
use Rattle.plan.proofs.UpdateLaws.{on_same, Differs, dirty_differs}
use Rattle.plan.specs.Machine.{Machine, feed_by}

abbrev cons_if : Bool → Write → List Write → List Write
cons_if true w ws = w ∷ ws
cons_if false w ws = ws

module _ (ok : ℕ → Bool) (n : ℕ) (M : Machine ok n) where
  -- the transactions that begin while the chip is on
  unfoldable pub heard_of : M.State → List Burst → List Write
  heard_of s [] = []
  heard_of s (b ∷ bs) = cons_if (on_by (M.byte s)) (write_of b) (heard_of (M.hear s b) bs)

  heard_one : (s : M.State) (b : Burst) → Good ok n (write_of b) → (a : ℕ) → ok a ≡ true → 0 < a → (rest : List Write) (v : ℕ) →
      (o : Bool) → on_by (M.byte s) ≡ o → Sent rest a ⊎ (v ≡ M.byte (M.hear s b) a) →
      Dec (a < b.start) → Dec (a < b.start + length b.bytes) → Sent (cons_if o (write_of b) rest) a ⊎ (v ≡ M.byte s a)
  heard_one s b g a t z rest v true e (inl p) x y = inl (inr p)
  heard_one s b g a t z rest v true e (inr p) (yes l) y = inr (p ∙ M.outside s b g a t (inl l))
  heard_one s b g a t z rest v true e (inr p) (no l) (yes q) = inl (inl (omega arith, q))
  heard_one s b g a t z rest v true e (inr p) (no l) (no q) = inr (p ∙ M.outside s b g a t (inr (omega arith)))
  heard_one s b g a t z rest v false e (inl p) x y = inl p
  heard_one s b g a t z rest v false e (inr p) x y = inr (p ∙ M.standby s b g e a z t)

  -- a writable address but 000h is sent by a heard transaction, or has the value that it had
  pub heard_or_same : (bs : List Burst) (s : M.State) → AllGood ok n (map write_of bs) → (a : ℕ) → ok a ≡ true → 0 < a →
      Sent (heard_of s bs) a ⊎ (M.byte (feed_by ok n M s bs) a ≡ M.byte s a)
  unfolding heard_of
  heard_or_same [] s g a t z = inr refl
  heard_or_same (b ∷ bs) s g a t z =
      heard_one s b g.0 a t z (heard_of (M.hear s b) bs) (M.byte (feed_by ok n M (M.hear s b) bs) a) (on_by (M.byte s)) refl
      (heard_or_same bs (M.hear s b) g.1 a t z) (dec_lt a b.start) (dec_lt a (b.start + length b.bytes))

  -- what holds of every transaction holds of those that are heard
  pub heard_among : (P : Write → Type 0) (bs : List Burst) (s : M.State) → All P (map write_of bs) → All P (heard_of s bs)
  unfolding heard_of
  heard_among P [] s h = tt
  heard_among P (b ∷ bs) s h = go (on_by (M.byte s)) (heard_among P bs (M.hear s b) h.1)
    where
      go : (o : Bool) → All P (heard_of (M.hear s b) bs) → All P (cons_if o (write_of b) (heard_of (M.hear s b) bs))
      go true r = (h.0, r)
      go false r = r

  -- and what is heard is sent
  pub heard_sent : (bs : List Burst) (s : M.State) (a : ℕ) → Sent (heard_of s bs) a → Sent (map write_of bs) a
  unfolding heard_of
  heard_sent [] s a h = h
  heard_sent (b ∷ bs) s a h = go (heard_sent bs (M.hear s b) a) (on_by (M.byte s)) h
    where
      go : (Sent (heard_of (M.hear s b) bs) a → Sent (map write_of bs) a) → (o : Bool) →
          Sent (cons_if o (write_of b) (heard_of (M.hear s b) bs)) a → Inside (write_of b) a ⊎ Sent (map write_of bs) a
      go r true (inl p) = inl p
      go r true (inr p) = inr (r p)
      go r false p = inr (r p)

  heard_cost : (h : ℕ) (bs : List Burst) (s : M.State) → cost_by h (heard_of s bs) ≤ cost_by h (map write_of bs)
  unfolding heard_of
  heard_cost h [] s = omega arith
  heard_cost h (b ∷ bs) s = go (on_by (M.byte s)) (heard_cost h bs (M.hear s b))
    where
      go : (o : Bool) → cost_by h (heard_of (M.hear s b) bs) ≤ cost_by h (map write_of bs) →
          cost_by h (cons_if o (write_of b) (heard_of (M.hear s b) bs)) ≤ h + length b.bytes + cost_by h (map write_of bs)
      go true r = omega arith
      go false r = omega arith

  -- from standby to on, one transaction at least is not heard
  heard_costs : (h : ℕ) (o : Bool) (s : M.State) (bs : List Burst) → AllGood ok n (map write_of bs) → on_by (M.byte s) ≡ o →
      on_by (M.byte (feed_by ok n M s bs)) ≡ true → enable_cost h o + cost_by h (heard_of s bs) ≤ cost_by h (map write_of bs)
  unfolding heard_of
  heard_costs h true s bs g e t = omega (arith, heard_cost h bs s)
  heard_costs h false s [] g e t = absurd (false≢true (sym e ∙ t))
  heard_costs h false s (b ∷ bs) g e t =
      let q : cost_by h (heard_of s (b ∷ bs)) ≡ cost_by h (heard_of (M.hear s b) bs)
      = ap (λ (o : Bool). cost_by h (cons_if o (write_of b) (heard_of (M.hear s b) bs))) e in
      omega (arith, g.0.some, heard_cost h bs (M.hear s b))

  -- A list on the bus costs at least as much as writes among its own that send every dirty address, and one more to enable.
  pub record Covered (v : View) (bs : List Burst) : Type 1 where
    pub writes : List Write
    pub among : (P : Write → Type 0) → All P (map write_of bs) → All P writes
    pub sends : SendsAll (marks_for ok v.same) n writes
    pub costs : (h : ℕ) → enable_cost h v.sure + cost_by h writes ≤ cost_by h (map write_of bs)

  -- a list that brings a chip with the bytes `have` to wanted bytes that are on
  module _ (want have : ℕ → ℕ) (s : M.State) (same : Agree ok n have (M.byte s)) (bs : List Burst) (g : AllGood ok n (map write_of bs))
      (e : Agree ok n (M.byte (feed_by ok n M s bs)) want) where
    heard_sends : SendsAll (marks_for ok (same_at want have)) n (heard_of s bs)
    heard_sends a l d = go (heard_or_same bs s g a q.may q.past)
      where
        q : Differs ok (same_at want have) a
        q = dirty_differs ok (same_at want have) a d

        go : Sent (heard_of s bs) a ⊎ (M.byte (feed_by ok n M s bs) a ≡ M.byte s a) → Sent (heard_of s bs) a
        go (inl p) = p
        go (inr p) = absurd (eqb-false (have a) (want a) q.differs (same a l q.may ∙ sym p ∙ e a l q.may))

    pub covered : 0 < n → ok 0 ≡ true → on_by want ≡ true → Covered (seen want have) bs
    covered z k o = record {
      writes = heard_of s bs;
      among = λ P h. heard_among P bs s h;
      sends = heard_sends;
      costs = λ h.
          heard_costs h (on_by have) s bs g (on_same (M.byte s) have (sym (same 0 z k)))
          (on_same (M.byte (feed_by ok n M s bs)) want (e 0 z k) ∙ o);
    }
