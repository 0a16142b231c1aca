-- How B is dealt out among four places.
-- Assumes nothing.
use Rattle.std.proofs.Common.{◌≡◌, refl, sym, ap, ap₂, ◌∙◌, subst, Bool, true, false, List, [], ◌∷◌, ◌++◌, ℕ, zero, suc, ◌+◌, ◌-◌, ◌*◌, ◌/◌, ◌≤◌, ◌<◌, map, length, take, drop, set, get_or, sum, arith}
use Rattle.std.proofs.lemmas.List.{append_assoc, append-nil, map-append, length-set, take_all, take_more_set}
use Rattle.std.proofs.lemmas.List.Sums.{sum-map}
use Rattle.std.proofs.lemmas.List.Recursion.{is_sum_by}
use Rattle.burst.specs.Burst.{Burst, bus_bytes}
use Rattle.plan.specs.Portion.{portion}
use Rattle.plan.proofs.PortionLaws.{portion_empty, portion_bytes}
use Rattle.host.specs.declared.Record.{Record}
use Rattle.host.proofs.SoundLaws.{Sound}
use Rattle.rounds.specs.declared.dealing.Dealt.{Dealt}
use Rattle.rounds.specs.Round.{share_of, left_over, deal, bytes_all, count_all, part_at, waiting, waitings, round_parts}
use Rattle.rounds.specs.Parts.{Sized}
use Rattle.rounds.specs.Dealing.{waiting_of, first_bytes, DealtAre}

-- ---- one place

-- nothing waits where nobody is present
pub absent_part : (room : ℕ) (present : Bool) (r : Record) → present ≡ false → portion room (waiting_of present r) ≡ []
absent_part room present r e = ap (λ (b : Bool). portion room (waiting_of b r)) e ∙ portion_empty room

pub absent_sized : (room : ℕ) (present : Bool) (r : Record) → present ≡ false → Sized (portion room (waiting_of present r)) 0 0
absent_sized room present r e =
    let none = absent_part room present r e in
    record { count_is = ap length (sym none); bytes_are = ap bus_bytes (sym none) }

-- ---- lists of parts

pub bytes_sum : (parts : List (List Burst)) → sum (map bus_bytes parts) ≡ bytes_all parts
bytes_sum parts = sum-map bus_bytes parts ∙ sym (is_sum_by bytes_all bus_bytes refl (λ bs parts. refl) parts)

pub bytes_append : (xs ys : List (List Burst)) → bytes_all (xs ++ ys) ≡ bytes_all xs + bytes_all ys
bytes_append [] ys = omega arith
bytes_append (bs ∷ xs) ys = omega (arith, bytes_append xs ys)

pub count_append : (xs ys : List (List Burst)) → count_all (xs ++ ys) ≡ count_all xs + count_all ys
count_append [] ys = omega arith
count_append (bs ∷ xs) ys = omega (arith, count_append xs ys)

firsts_sum : (share : ℕ) (cs : List (List Burst)) → sum (map (λ c. bus_bytes (portion share c)) cs) ≡ bytes_all (map (portion share) cs)
firsts_sum share cs =
    let first : List Burst → ℕ = λ c. bus_bytes (portion share c) in
    sum-map first cs ∙ sym (is_sum_by (λ cs. bytes_all (map (portion share) cs)) first refl (λ c cs. refl) cs)

-- one place is dealt its part, and what is left goes on
deal_one : (share left first : ℕ) (c : List Burst) (cs : List (List Burst)) (next : ℕ) → first ≡ bus_bytes (portion share c) →
    bus_bytes (portion (first + left) c) + next ≡ first + left → deal share left (c ∷ cs) ≡ portion (first + left) c ∷ deal share next cs
unfolding deal
deal_one share left first c cs next e h =
    ap₂ ◌∷◌ (ap (λ (k : ℕ). portion (k + left) c) (sym e)) (ap (λ (k : ℕ). deal share k cs) rest)
  where
    rest : bus_bytes (portion share c) + left - bus_bytes (portion (bus_bytes (portion share c) + left) c) ≡ next
    rest = omega (arith, e, h, ap (λ (k : ℕ). bus_bytes (portion (k + left) c)) e)

-- ---- four places

module _ (present : ℕ → Bool) (records : ℕ → Record) where
  abbrev w : ℕ → List Burst
  w = waiting present records

  abbrev ws : List (List Burst)
  ws = waitings present records

  behind : (k : ℕ) → k < 4 → drop k ws ≡ w k ∷ drop (k + 1) ws
  behind zero h = refl
  behind (suc zero) h = refl
  behind (suc (suc zero)) h = refl
  behind (suc (suc (suc zero))) h = refl
  behind (suc (suc (suc (suc k)))) h = absurd (omega arith)

  pub first_at : (share k : ℕ) → k < 4 → get_or (first_bytes share present records) k 0 ≡ bus_bytes (portion share (w k))
  first_at share zero h = refl
  first_at share (suc zero) h = refl
  first_at share (suc (suc zero)) h = refl
  first_at share (suc (suc (suc zero))) h = refl
  first_at share (suc (suc (suc (suc k)))) h = absurd (omega arith)

  module _ (limit : ℕ) where
    abbrev share : ℕ
    share = share_of limit

    -- the portions within the shares fit B
    pub firsts_fit : sum (first_bytes share present records) ≤ limit
    firsts_fit =
        omega (arith, portion_bytes share (w 0), portion_bytes share (w 1), portion_bytes share (w 2), portion_bytes share (w 3))

    -- the places before this one have their parts, and so many bytes are left
    pub record Dealing (place left writes : ℕ) (bytes : List ℕ) : Type 0 where
      pub size : length bytes ≡ 4
      pub done : List (List Burst)
      pub parts_are : round_parts present records limit ≡ done ++ deal share left (drop place ws)
      pub writes_are : writes ≡ count_all done
      pub bytes_are : take place bytes ≡ map bus_bytes done
      pub few : 3 * writes ≤ bytes_all done
      pub spent : bytes_all done + left + bytes_all (map (portion share) (drop place ws)) ≡ limit

    pub dealing_start : (left : ℕ) (bytes : List ℕ) → length bytes ≡ 4 → left + sum (first_bytes share present records) ≡ limit → Dealing 0 left 0 bytes
    dealing_start left bytes n e =
        let firsts : sum (first_bytes share present records) ≡ bytes_all (map (portion share) ws) = firsts_sum share ws in
        let over : left_over limit ws ≡ left = omega (arith, firsts) in
        record {
          size = n;
          done = [];
          parts_are = ap (λ (k : ℕ). deal share k ws) over;
          writes_are = refl;
          bytes_are = refl;
          few = omega arith;
          spent = omega (arith, firsts);
        }

    module _ (place left writes : ℕ) (bytes : List ℕ) (d : Dealing place left writes bytes) (h : place < 4) where
      costs : bytes_all (map (portion share) (drop place ws)) ≡ bus_bytes (portion share (w place)) + bytes_all (map (portion share) (drop (place + 1) ws))
      costs = ap (λ (cs : List (List Burst)). bytes_all (map (portion share) cs)) (behind place h)

      -- there is room for the part of the place
      pub dealing_room : (first : ℕ) → first ≡ bus_bytes (portion share (w place)) → first + left + bytes_all d.done ≤ limit
      dealing_room first e = omega (arith, e, d.spent, costs)

      pub dealing_more : (first n b : ℕ) → first ≡ bus_bytes (portion share (w place)) → Sized (portion (first + left) (w place)) n b →
          3 * n ≤ b → b ≤ first + left → Dealing (place + 1) (first + left - b) (writes + n) (set bytes place b)
      dealing_more first n b e s f r =
          let part : List Burst = portion (first + left) (w place) in
          let next : ℕ = first + left - b in
          let whole : bytes_all (d.done ++ (part ∷ [])) ≡ bytes_all d.done + b = omega (arith, bytes_append d.done (part ∷ []), s.bytes_are) in
          record {
            size = length-set bytes place b ∙ d.size;
            done = d.done ++ (part ∷ []);
            parts_are =
                d.parts_are
                ∙ ap (λ (cs : List (List Burst)). d.done ++ deal share left cs) (behind place h)
                ∙ ap (λ (ps : List (List Burst)). d.done ++ ps) (deal_one share left first (w place) (drop (place + 1) ws) next e (omega (arith, s.bytes_are)))
                ∙ sym (append_assoc d.done (part ∷ []) (deal share next (drop (place + 1) ws)));
            writes_are = omega (arith, d.writes_are, s.count_is, count_append d.done (part ∷ []));
            bytes_are =
                take_more_set bytes place b (omega (arith, d.size))
                ∙ ap₂ (λ (xs : List ℕ) (x : ℕ). xs ++ (x ∷ [])) d.bytes_are s.bytes_are
                ∙ sym (map-append bus_bytes d.done (part ∷ []));
            few = omega (arith, whole, d.few, f);
            spent = omega (arith, whole, d.spent, costs, e, r);
          }

    pub dealing_done : (place left writes : ℕ) (bytes : List ℕ) → place ≡ 4 → Dealing place left writes bytes →
        DealtAre limit present records (record { writes = writes; bytes = bytes })
    unfolding deal
    dealing_done place left writes bytes e d =
        let last : ℕ → Type 0 = λ k. round_parts present records limit ≡ d.done ++ deal share left (drop k ws) in
        let parts : round_parts present records limit ≡ d.done = subst last e d.parts_are ∙ append-nil d.done in
        let bytes_are : bytes ≡ map bus_bytes d.done = sym (take_all place bytes (omega (arith, d.size))) ∙ d.bytes_are in
        let total : sum bytes ≡ bytes_all d.done = ap sum bytes_are ∙ bytes_sum d.done in
        record {
          writes_are = d.writes_are ∙ sym (ap count_all parts);
          bytes_are = bytes_are ∙ sym (ap (map bus_bytes) parts);
          few = omega (arith, total, d.few);
          most = omega (arith, total, d.spent);
        }
