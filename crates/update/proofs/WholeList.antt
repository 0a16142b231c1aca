-- The whole update: its sizes, and its pieces one behind the other, by document 01's definitions.
-- Assumes nothing.
use mathlib.Core.Path.{◌≡◌, refl, sym, ap, ap₂, subst, ◌∙◌}
use mathlib.Core.Bool.{Bool, true, false, cond}
use mathlib.Core.List.{List, ◌++◌, map, append_assoc}
use Prim.Native.Nat.{ℕ, ◌+◌, ◌-◌, ◌*◌, ◌%◌, ◌≤◌, ◌<◌}
use native.Mathlib.Omega.{arith}
use borrow.Author.Tests.{eq-eqb, ne_eqb}
use lib.ListN.{length, get_or, length-append, length-map}
use lib.Seq.{sets, take-length, length-take-le}
use Rattle.std.specs.Prelude.{Err}
use Rattle.map.specs.declared.refusals.Refusal.{Refusal}
use Rattle.burst.specs.Burst.{size_bytes, sizes_bytes, bus_bytes, put_size, transaction_of, encode}
use Rattle.burst.specs.BurstLaws.{encode_length}
use Rattle.plan.specs.Plan.{Write, cost, plan}
use Rattle.plan.specs.WriteLaws.{cost_append}
use Rattle.plan.specs.Update.{value_at, on_by, data_of}
use Rattle.host.specs.declared.Header.{Header}
use Rattle.host.specs.declared.Record.{Record}
use Rattle.host.specs.Record.{record_of, sound_of, sound_answer}
use Rattle.host.proofs.SoundLaws.{Sound, sound_is}
use Rattle.writes.specs.Marks.{chip_view, marks_of}
use Rattle.writes.specs.Found.{Small, Counted}
use Rattle.writes.specs.Written.{transaction_lengths, transaction_bytes, writes_bytes}
use Rattle.writes.specs.WrittenLaws.{Inside, sets_behind, sets_comm, sets_front, lengths_append, lengths_size, bytes_append, bytes_one, bytes_size, writes_cost, list_written}
use Rattle.update.specs.Update.{ListAnswer, listed, short, refused, list_size, writes_of, updating, update_answer, update_buffer}
use Rattle.update.specs.SendLaws.{Leaves, send_unsound, send_short, send_listed}
use Rattle.update.proofs.Fixed.{unsound_is}
use Rattle.update.specs.Pieces.{enable_count, enable_writes, plan_count, planned, pending, ListSizes}
use Rattle.update.specs.PieceLaws.{enable_length, enable_cost_lem, enable_inside, pending_inside, writes_are}

-- ---- list_sizes

module _ (r : Record) (first : ℕ) (f : (first ≡ enable_count (on_by (value_at r.settings)) (chip_view r)) × (first ≤ 1)) where
  pub sizes_off : (get_or r.settings 0 0 % 2 ≡ 1 → ⊥) → ListSizes r first first (3 * first)
  unfolding plan_count
  sizes_off n =
      let none : plan_count r ≡ 0 = rw (ne_eqb _ 1 n) refl in
      record {
        first_is = f.0;
        n_is = omega arith;
        t_is = omega (arith, ap (λ (k : ℕ). cost (planned r k)) none);
        first_small = f.1;
        few = omega arith;
        most = omega (arith, f.1);
      }

  pub sizes_on : (count bytes : ℕ) → get_or r.settings 0 0 % 2 ≡ 1 → Small count bytes → Counted (marks_of r) count bytes →
      ListSizes r first (first + count) (3 * first + bytes)
  unfolding plan_count
  sizes_on count bytes e s c =
      let all : plan_count r ≡ length (plan (marks_of r) 908) = rw (eq-eqb _ 1 e) refl in
      let sent : cost (planned r (plan_count r)) ≡ cost (plan (marks_of r) 908) = ap cost (ap (planned r) all ∙ take-length (plan (marks_of r) 908)) in
      record {
        first_is = f.0;
        n_is = omega (arith, c.count_is);
        t_is = omega (arith, c.bytes_are);
        first_small = f.1;
        few = omega (arith, s.few, f.1);
        most = omega (arith, s.most, f.1);
      }

-- ---- the write of 000h

module _ (h : Header) (settings old front : List ℕ) (first n t : ℕ) (e : front ≡ sets old 0 (size_bytes n ++ size_bytes t)) where
  abbrev Fronted : List ℕ → Type 0
  Fronted new =
      new
      ≡ sets (sets old 0 ((size_bytes n ++ size_bytes t) ++ sizes_bytes (transaction_lengths (enable_writes first)))) (4 + 2 * n)
      (transaction_bytes h settings (enable_writes first))

  pub front_none : first ≡ 0 → Fronted front
  unfolding enable_writes
  front_none z = rw z e

  pub front_first : (mid new : List ℕ) → first ≡ 1 → mid ≡ put_size front (4 + 2 * 0) 3 →
      new ≡ sets mid (4 + 2 * n) (transaction_of h.bus h.pins (data_of settings (record { start = 0; len = 1 }))) → Fronted new
  unfolding enable_writes put_size
  front_first mid new z em en =
      rw z
      (en
      ∙ ap₂ (λ (l k : List ℕ). sets l (4 + 2 * n) k) (sets_behind (size_bytes n ++ size_bytes t) (size_bytes 3) old front mid 0 4 e em refl)
      (sym (bytes_one h settings (record { start = 0; len = 1 }))))

-- ---- put_list

regroup : (a b c d e : List ℕ) → (((a ++ b) ++ c) ++ d) ++ e ≡ a ++ ((b ++ c) ++ (d ++ e))
regroup a b c d e = simp append_assoc

plan_most : (r : Record) → plan_count r ≤ length (plan (marks_of r) 908)
unfolding plan_count
plan_most r = go (on_by (value_at r.settings))
  where
    go : (b : Bool) → cond b (length (plan (marks_of r) 908)) 0 ≤ length (plan (marks_of r) 908)
    go true = omega arith
    go false = omega arith

module _ (r : Record) (first n t : ℕ) (z : ListSizes r first n t) where
  planned_length : length (planned r (plan_count r)) ≡ plan_count r
  planned_length = length-take-le (plan_count r) (plan (marks_of r) 908) (plan_most r)

  pending_length : length (pending r first) ≡ n
  pending_length = omega (arith, length-append (enable_writes first) (planned r (plan_count r)), enable_length first z.first_small, planned_length, z.n_is)

  pending_cost : cost (pending r first) ≡ t
  pending_cost = omega (arith, cost_append 2 (enable_writes first) (planned r (plan_count r)), enable_cost_lem first z.first_small, z.t_is)

  -- the writes of the plan among n
  left : n - first ≡ plan_count r
  left = omega (arith, z.n_is)

  pub n_fits : (first ≤ n) × (n ≤ 909) × (n ≤ first + length (plan (marks_of r) 908))
  n_fits = (omega (arith, z.n_is), omega (arith, z.few, z.most), omega (arith, z.n_is, plan_most r))

  -- the pieces, each where the one before ends
  pub pieces : length r.settings ≡ 908 → (b₀ b₁ b₂ : List ℕ) →
      b₁
      ≡ sets (sets b₀ 0 ((size_bytes n ++ size_bytes t) ++ sizes_bytes (transaction_lengths (enable_writes first)))) (4 + 2 * n)
      (transaction_bytes r.header r.settings (enable_writes first)) →
      b₂
      ≡ sets (sets b₁ (4 + 2 * first) (sizes_bytes (transaction_lengths (planned r (n - first))))) (4 + 2 * n + 3 * first)
      (transaction_bytes r.header r.settings (planned r (n - first))) →
      b₂ ≡ sets b₀ 0 (writes_bytes r.header r.settings (pending r first))
  unfolding writes_bytes
  pieces size b₀ b₁ b₂ e₁ e₂ =
      let ws : List Write = planned r (plan_count r) in
      let nt : List ℕ = size_bytes n ++ size_bytes t in
      let el : List ℕ = sizes_bytes (transaction_lengths (enable_writes first)) in
      let pl : List ℕ = sizes_bytes (transaction_lengths ws) in
      let et : List ℕ = transaction_bytes r.header r.settings (enable_writes first) in
      let pt : List ℕ = transaction_bytes r.header r.settings ws in
      let e₃ : b₂ ≡ sets (sets b₁ (4 + 2 * first) pl) (4 + 2 * n + 3 * first) pt =
      e₂
      ∙ ap (λ (k : ℕ). sets (sets b₁ (4 + 2 * first) (sizes_bytes (transaction_lengths (planned r k)))) (4 + 2 * n + 3 * first) (transaction_bytes r.header r.settings (planned r k))) left in
      let l₁ : length (nt ++ el) ≡ 4 + 2 * first = omega (arith, length-append nt el, lengths_size (enable_writes first), enable_length first z.first_small) in
      let l₂ : length ((nt ++ el) ++ pl) ≡ 4 + 2 * n = omega (arith, length-append (nt ++ el) pl, lengths_size ws, planned_length, z.n_is) in
      let l₃ : length (((nt ++ el) ++ pl) ++ et) ≡ 4 + 2 * n + 3 * first =
      omega (arith, length-append ((nt ++ el) ++ pl) et, bytes_size r.header r.settings (enable_writes first) (enable_inside r.settings first size), enable_cost_lem first z.first_small) in
      let fits : 4 + 2 * first + length pl ≤ 4 + 2 * n = omega (arith, lengths_size ws, planned_length, z.n_is) in
      let turned : sets b₁ (4 + 2 * first) pl ≡ sets (sets (sets b₀ 0 (nt ++ el)) (4 + 2 * first) pl) (4 + 2 * n) et =
      ap (λ (b : List ℕ). sets b (4 + 2 * first) pl) e₁ ∙ sym (sets_comm pl et (sets b₀ 0 (nt ++ el)) (4 + 2 * first) (4 + 2 * n) fits) in
      let p₂ = sets_behind (nt ++ el) pl b₀ (sets b₀ 0 (nt ++ el)) (sets (sets b₀ 0 (nt ++ el)) (4 + 2 * first) pl) 0 (4 + 2 * first) refl refl (omega arith) in
      let p₃ = sets_behind ((nt ++ el) ++ pl) et b₀ _ (sets b₁ (4 + 2 * first) pl) 0 (4 + 2 * n) p₂ turned (omega arith) in
      sets_behind (((nt ++ el) ++ pl) ++ et) pt b₀ (sets b₁ (4 + 2 * first) pl) b₂ 0 (4 + 2 * n + 3 * first) p₃ e₃ (omega arith)
      ∙ ap (sets b₀ 0)
      (regroup nt el pl et pt
      ∙ ap₂ (λ (x y : ℕ). (size_bytes x ++ size_bytes y) ++ ((el ++ pl) ++ (et ++ pt))) (sym pending_length) (sym pending_cost)
      ∙ ap₂ (λ (x y : List ℕ). (size_bytes (length (pending r first)) ++ size_bytes (cost (pending r first))) ++ (x ++ y))
      (sym (lengths_append (enable_writes first) ws)) (sym (bytes_append r.header r.settings (enable_writes first) ws)))

-- what a sound record's update sends
pub record Sends (r : Record) (first n t : ℕ) : Type 0 where
  pub n_is : length (writes_of r) ≡ n
  pub t_is : bus_bytes (writes_of r) ≡ t
  pub list_is : encode r.header.bus r.header.pins (writes_of r) ≡ writes_bytes r.header r.settings (pending r first)

pub sends : (r : Record) → Sound r → (first n t : ℕ) → ListSizes r first n t → Sends r first n t
sends r s first n t z = record {
  n_is = ap length are ∙ length-map ws (data_of r.settings) ∙ pending_length r first n t z;
  t_is = ap bus_bytes are ∙ writes_cost r.settings ws inside ∙ pending_cost r first n t z;
  list_is = ap (encode r.header.bus r.header.pins) are ∙ list_written r.header r.settings ws inside;
}
  where
    ws : List Write
    ws = pending r first

    inside : Inside r.settings (pending r first)
    inside = pending_inside r s first

    are : writes_of r ≡ map (data_of r.settings) ws
    are = writes_are r s ∙ ap (λ (k : ℕ). map (data_of r.settings) (pending r k)) (sym z.first_is)

-- ---- update_parts

module _ (r : Record) (buffer : List ℕ) where
  -- what the call answers, and the buffer as it leaves it
  abbrev pub Outcome : ListAnswer → List ℕ → Type 0
  Outcome answer new = (answer ≡ update_answer r (length buffer)) × (new ≡ update_buffer r buffer)

  outcome : (answer : ListAnswer) (host : Record) (new : List ℕ) → Leaves r (updating r) buffer answer host new → Outcome answer new
  outcome answer host new l = (l.answer_is, l.buffer_is)

  pub parts_unsound : (e : Refusal) → Err e ≡ sound_answer r → Outcome (refused e) buffer
  parts_unsound e s = let u = unsound_is r e s in rw u.1 (outcome _ _ _ (send_unsound r (updating r) buffer u.0))

  module _ (first n t : ℕ) (e : sound_of r ≡ true) (z : ListSizes r first n t) where
    abbrev s : Sends r first n t
    s = sends r (sound_is r e) first n t z

    size_is : list_size (writes_of r) ≡ 4 + 2 * n + t
    size_is = omega (arith, s.n_is, s.t_is)

    pub parts_short : length buffer < 4 + 2 * n + t → Outcome (short (4 + 2 * n + t)) buffer
    parts_short h = rw (← size_is) (outcome _ _ _ (send_short r (updating r) buffer refl e (omega (arith, size_is))))

    pub parts_listed : (new : List ℕ) → 4 + 2 * n + t ≤ length buffer → new ≡ sets buffer 0 (writes_bytes r.header r.settings (pending r first)) →
        Outcome (listed n t) new
    parts_listed new h en =
        let l = send_listed r (updating r) buffer e (omega (arith, size_is)) in
        let list : List ℕ = encode r.header.bus r.header.pins (writes_of r) in (
          ap₂ listed (sym s.n_is) (sym s.t_is) ∙ l.answer_is,
          en ∙ ap (sets buffer 0) (sym s.list_is)
              ∙ sets_front list buffer (omega (arith, encode_length r.header.bus r.header.pins (writes_of r), size_is)) ∙ l.buffer_is,
        )
