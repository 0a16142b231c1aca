-- The parts of four places make up one list.
-- Assumes nothing.
use Rattle.std.proofs.Common.{◌≡◌, refl, sym, ap, ap₂, ◌∙◌, subst, Bool, true, false, List, [], ◌∷◌, ◌++◌, ℕ, zero, suc, ◌+◌, ◌*◌, ◌≤◌, ◌<◌, ◌≢◌, map, length, take, set, get_or, sum, arith, length-append, get_or-set_other, get_or-set_same, below_more}
use Rattle.std.proofs.lemmas.List.{length-map, length-set, length-take-le, map-append, append_assoc, append-nil, take_all}
use Rattle.std.proofs.lemmas.List.Edits.{sets}
use Rattle.burst.specs.Burst.{Burst, size_bytes, sizes_bytes, joined, transaction_of, list_of, bus_bytes}
use Rattle.burst.specs.Burst as burst
use Rattle.plan.specs.Portion.{portion}
use Rattle.plan.proofs.PortionLaws.{portion_again}
use Rattle.plan.specs.Update.{store_all}
use Rattle.host.specs.declared.Record.{Record}
use Rattle.writes.specs.WrittenLaws.{sets_append, sets_comm, sizes_append, joined_append}
use Rattle.update.specs.Update.{writes_of}
use Rattle.rounds.specs.declared.dealing.Dealt.{Dealt}
use Rattle.rounds.specs.Round.{bytes_all, count_all, pinned, round_list, part_at, waiting, round_parts, round_room}
use Rattle.rounds.proofs.ListLaws.{pinned_count, pinned_sum}
use Rattle.rounds.proofs.DealLaws.{part_is, four_parts}
use Rattle.rounds.specs.Dealing.{waiting_of, AllPlaced, DealtAre, put_part, part_transactions, image_at, RoundPut}
use Rattle.rounds.proofs.Shares.{absent_part, bytes_append, bytes_sum, count_append}

-- ---- pieces

sizes_length : (xs : List (List ℕ)) → length (sizes_bytes (map length xs)) ≡ 2 * length xs
sizes_length [] = refl
sizes_length (x ∷ xs) = omega (arith, sizes_length xs)

-- a part behind a part
put_behind : (buffer : List ℕ) (index at next behind : ℕ) (xs ys : List (List ℕ)) → next ≡ index + length xs → behind ≡ at + length (joined xs) →
    4 + 2 * (next + length ys) ≤ at → put_part (put_part buffer index at xs) next behind ys ≡ put_part buffer index at (xs ++ ys)
put_behind buffer index at next behind xs ys en eb free =
    let lx : List ℕ = sizes_bytes (map length xs) in
    let ly : List ℕ = sizes_bytes (map length ys) in
    let p : ℕ = 4 + 2 * index in
    let place : 4 + 2 * next ≡ p + length lx = omega (arith, sizes_length xs) in
    ap (λ (l : List ℕ). sets l behind (joined ys)) (sym (sets_comm ly (joined xs) (sets buffer p lx) (4 + 2 * next) at (omega (arith, sizes_length ys))))
    ∙ ap₂ (λ (j k : ℕ). sets (sets (sets (sets buffer p lx) j ly) at (joined xs)) k (joined ys)) place eb
    ∙ ap (λ (l : List ℕ). sets (sets l at (joined xs)) (at + length (joined xs)) (joined ys)) (sets_append lx ly buffer p)
    ∙ sets_append (joined xs) (joined ys) (sets buffer p (lx ++ ly)) at
    ∙ ap₂ (λ (l j : List ℕ). sets (sets buffer p l) at j)
    (sym (sizes_append (map length xs) (map length ys)) ∙ ap sizes_bytes (sym (map-append length xs ys))) (sym (joined_append xs ys))

-- n and t before all of them
put_all : (buffer : List ℕ) (n t : ℕ) (xs : List (List ℕ)) → n ≡ length xs → t ≡ burst.sum (map length xs) →
    put_part (sets buffer 0 (size_bytes n ++ size_bytes t)) 0 (4 + 2 * n) xs ≡ sets buffer 0 (list_of xs)
unfolding list_of
put_all buffer n t xs en et =
    let head : List ℕ = size_bytes n ++ size_bytes t in
    let lengths : List ℕ = sizes_bytes (map length xs) in
    let place : 4 + 2 * n ≡ 0 + length (head ++ lengths) = omega (arith, length-append head lengths, sizes_length xs) in
    ap (λ (l : List ℕ). sets l (4 + 2 * n) (joined xs)) (sets_append head lengths buffer 0)
    ∙ ap (λ (k : ℕ). sets (sets buffer 0 (head ++ lengths)) k (joined xs)) place
    ∙ sets_append (head ++ lengths) (joined xs) buffer 0
    ∙ ap (sets buffer 0) (append_assoc head lengths (joined xs))
    ∙ ap₂ (λ (a b : ℕ). sets buffer 0 (size_bytes a ++ (size_bytes b ++ (lengths ++ joined xs)))) en et

-- ---- parts

pub part_bytes : (q : ℕ) (bs : List Burst) → length (joined (map (transaction_of 0 q) bs)) ≡ bus_bytes bs
unfolding transaction_of
part_bytes q [] = refl
part_bytes q (b ∷ bs) = omega (arith, length-append b.bytes (joined (map (transaction_of 0 q) bs)), part_bytes q bs)

-- the places before one, and its part
part_more : (parts : List (List Burst)) (k : ℕ) → k < length parts → take (suc k) parts ≡ take k parts ++ (part_at parts k ∷ [])
part_more [] k h = absurd (omega arith)
part_more (bs ∷ parts) zero h = refl
part_more (bs ∷ parts) (suc k) h = ap (λ (ps : List (List Burst)). bs ∷ ps) (part_more parts k (omega arith))

part_within : (parts : List (List Burst)) (k : ℕ) → k < length parts →
    (count_all (take k parts) + length (part_at parts k) ≤ count_all parts) × (bytes_all (take k parts) + bus_bytes (part_at parts k) ≤ bytes_all parts)
part_within [] k h = absurd (omega arith)
part_within (bs ∷ parts) zero h = (omega arith, omega arith)
part_within (bs ∷ parts) (suc k) h = let t = part_within parts k (omega arith) in (omega (arith, t.0), omega (arith, t.1))

pinned_append : (q : ℕ) (xs ys : List (List Burst)) → pinned q (xs ++ ys) ≡ pinned q xs ++ pinned (q + length xs) ys
pinned_append q [] ys = ap (λ (k : ℕ). pinned k ys) (omega arith)
pinned_append q (bs ∷ xs) ys =
    ap (λ (l : List (List ℕ)). map (transaction_of 0 q) bs ++ l) (pinned_append (suc q) xs ys ∙ ap (λ (k : ℕ). pinned (suc q) xs ++ pinned k ys) (omega arith))
    ∙ sym (append_assoc (map (transaction_of 0 q) bs) (pinned (suc q) xs) (pinned (q + length (bs ∷ xs)) ys))

joined_bytes : (q : ℕ) (parts : List (List Burst)) → length (joined (pinned q parts)) ≡ bytes_all parts
joined_bytes q [] = refl
joined_bytes q (bs ∷ parts) =
    ap length (joined_append (map (transaction_of 0 q) bs) (pinned (suc q) parts))
    ∙ length-append (joined (map (transaction_of 0 q) bs)) (joined (pinned (suc q) parts))
    ∙ ap₂ ◌+◌ (part_bytes q bs) (joined_bytes (suc q) parts)

bytes_at : (parts : List (List Burst)) (k : ℕ) → get_or (map bus_bytes parts) k 0 ≡ bus_bytes (part_at parts k)
bytes_at [] k = refl
bytes_at (bs ∷ parts) zero = refl
bytes_at (bs ∷ parts) (suc k) = bytes_at parts k

-- ---- one place

-- what is put of a place whose part has so many bus bytes: the index of the next transaction is `next`
pub record Puts (present : Bool) (r : Record) (index at bytes next : ℕ) (buffer after image taken : List ℕ) : Type 0 where
  pub value : next ≡ index + length (portion bytes (waiting_of present r))
  pub buffer_after : after ≡ put_part buffer index at (map (transaction_of r.header.bus r.header.pins) (portion bytes (waiting_of present r)))
  pub image_after : taken ≡ store_all (portion bytes (waiting_of present r)) image

module _ (present : Bool) (r : Record) (index at bytes : ℕ) where
  pub absent_put : (buffer image : List ℕ) → present ≡ false → Puts present r index at bytes index buffer buffer image image
  absent_put buffer image e =
      let none = sym (absent_part bytes present r e) in
      record {
        value = omega (arith, ap length none);
        buffer_after = ap (λ (xs : List Burst). put_part buffer index at (map (transaction_of r.header.bus r.header.pins) xs)) none;
        image_after = ap (λ (xs : List Burst). store_all xs image) none;
      }

-- ---- four places

module _ (limit : ℕ) (present : ℕ → Bool) (records : ℕ → Record) where
  abbrev parts : List (List Burst)
  parts = round_parts present records limit

  -- what fits the bytes of a part is that part
  pub part_again : (k bytes : ℕ) → k < 4 → bytes ≡ bus_bytes (part_at parts k) → portion bytes (waiting present records k) ≡ part_at parts k
  part_again k bytes h e =
      let w : List Burst = waiting present records k in
      let is = part_is present records limit k h in
      ap (λ (j : ℕ). portion j w) (e ∙ ap bus_bytes is) ∙ portion_again (round_room present records limit k) w ∙ sym is

  -- its transactions have the pins of its place
  part_pinned : AllPlaced present records → (k bytes : ℕ) → k < 4 → bytes ≡ bus_bytes (part_at parts k) →
      map (transaction_of (records k).header.bus (records k).header.pins) (portion bytes (waiting present records k)) ≡ map (transaction_of 0 k) (part_at parts k)
  part_pinned p k bytes h e = go (present k) refl
    where
      again : portion bytes (waiting present records k) ≡ part_at parts k
      again = part_again k bytes h e

      go : (b : Bool) → present k ≡ b →
          map (transaction_of (records k).header.bus (records k).header.pins) (portion bytes (waiting present records k)) ≡ map (transaction_of 0 k) (part_at parts k)
      go true t =
          ap₂ (λ (b q : ℕ). map (transaction_of b q) (portion bytes (waiting present records k))) (p.bus k h t) (p.pins k h t)
          ∙ ap (map (transaction_of 0 k)) again
      go false t =
          let none = absent_part bytes (present k) (records k) t in
          ap (map (transaction_of (records k).header.bus (records k).header.pins)) none ∙ ap (map (transaction_of 0 k)) (sym none ∙ again)

  -- n and t, then part by part
  module _ (x : Dealt) where
    abbrev front : List ℕ → List ℕ
    front old = sets old 0 (size_bytes x.writes ++ size_bytes (sum x.bytes))

    abbrev start : ℕ
    start = 4 + 2 * x.writes

    -- the parts of the places before this one are put, and taken
    pub record Putting (old : List ℕ) (before : List (List ℕ)) (place next at : ℕ) (buffer : List ℕ) (images : List (List ℕ)) : Type 0 where
      pub size : length images ≡ 4
      pub next_is : next ≡ count_all (take place parts)
      pub at_is : at ≡ start + bytes_all (take place parts)
      pub put : buffer ≡ put_part (front old) 0 start (pinned 0 (take place parts))
      pub taken : (k : ℕ) → k < place → image_at images k ≡ store_all (part_at parts k) (image_at before k)
      pub others : (k : ℕ) → place ≤ k → image_at images k ≡ image_at before k

    pub putting_start : (old : List ℕ) (before : List (List ℕ)) (at : ℕ) (buffer : List ℕ) → length before ≡ 4 → at ≡ start → buffer ≡ front old →
        Putting old before 0 0 at buffer before
    putting_start old before at buffer n ea eb = record {
      size = n;
      next_is = refl;
      at_is = omega (arith, ea);
      put = eb;
      taken = λ k h. absurd (omega arith);
      others = λ k h. refl;
    }

    module _ (d : DealtAre limit present records x) where
      pub part_size_at : (k : ℕ) → get_or x.bytes k 0 ≡ bus_bytes (part_at parts k)
      part_size_at k = ap (λ (l : List ℕ). get_or l k 0) d.bytes_are ∙ bytes_at parts k

      total : sum x.bytes ≡ bytes_all parts
      total = ap sum d.bytes_are ∙ bytes_sum parts

      module _ (old : List ℕ) (before : List (List ℕ)) (place next at : ℕ) (buffer : List ℕ) (images : List (List ℕ))
          (g : Putting old before place next at buffer images) (h : place < 4) where
        within : place < length parts
        within = omega (arith, four_parts present records limit)

        bytes : ℕ
        bytes = get_or x.bytes place 0

        is : portion (get_or x.bytes place 0) (waiting present records place) ≡ part_at parts place
        is = part_again place (get_or x.bytes place 0) h (part_size_at place)

        -- there is room for the part
        pub putting_room : limit ≤ 4096 → (get_or x.bytes place 0 ≤ 8192) × (at ≤ 65536) × (at + get_or x.bytes place 0 ≤ 65536)
            × (4 + 2 * (next + length (portion (get_or x.bytes place 0) (waiting present records place))) ≤ at)
        putting_room l =
            let t = part_within parts place within in
            let e = part_size_at place in
            let f = ap length is in (
              omega (arith, t.1, e, total, d.most),
              omega (arith, t.1, g.at_is, total, d.most, d.few),
              omega (arith, t.1, e, g.at_is, total, d.most, d.few),
              omega (arith, t.0, f, g.next_is, g.at_is, d.writes_are),
            )

        pub putting_more : AllPlaced present records → (after : ℕ) (new taken : List ℕ) →
            Puts (present place) (records place) next at (get_or x.bytes place 0) after buffer new (image_at images place) taken →
            Putting old before (place + 1) after (at + get_or x.bytes place 0) new (set images place taken)
        putting_more p after new taken f =
            let part : List Burst = part_at parts place in
            let done : List (List Burst) = take place parts in
            let next_place : place + 1 ≡ suc place = omega arith in
            let more : take (place + 1) parts ≡ done ++ (part ∷ []) = ap (λ (k : ℕ). take k parts) next_place ∙ part_more parts place within in
            let last : length done ≡ place = length-take-le place parts (omega (arith, within)) in
            let sent : List (List ℕ) = map (transaction_of 0 place) part in
            let pins : pinned 0 (take (place + 1) parts) ≡ pinned 0 done ++ sent =
            ap (pinned 0) more ∙ pinned_append 0 done (part ∷ [])
            ∙ ap (λ (l : List (List ℕ)). pinned 0 done ++ l) (append-nil (map (transaction_of 0 (0 + length done)) part))
            ∙ ap (λ (k : ℕ). pinned 0 done ++ map (transaction_of 0 k) part) (omega (arith, last)) in
            let count : count_all (take (place + 1) parts) ≡ count_all done + length part = omega (arith, ap count_all more, count_append done (part ∷ [])) in
            let size : bytes_all (take (place + 1) parts) ≡ bytes_all done + bus_bytes part = omega (arith, ap bytes_all more, bytes_append done (part ∷ [])) in
            let room : place < length images = omega (arith, g.size) in
            record {
              size = length-set images place taken ∙ g.size;
              next_is = omega (arith, f.value, ap length is, g.next_is, count);
              at_is = omega (arith, g.at_is, part_size_at place, size);
              put =
                  f.buffer_after
                  ∙ ap (put_part buffer next at) (part_pinned p place (get_or x.bytes place 0) h (part_size_at place))
                  ∙ ap (λ (l : List ℕ). put_part l next at sent) g.put
                  ∙ put_behind (front old) 0 start next at (pinned 0 done) sent (omega (arith, g.next_is, pinned_count 0 done))
                  (omega (arith, g.at_is, joined_bytes 0 done))
                  (omega (arith, (part_within parts place within).0, g.next_is, d.writes_are, length-map part (transaction_of 0 place)))
                  ∙ ap (put_part (front old) 0 start) (sym pins);
              taken =
                  below_more _ _ (λ k b. let ne : k ≢ place = omega arith in rw get_or-set_other (g.taken k b))
                  (rw get_or-set_same (f.image_after ∙ ap₂ store_all is (g.others place (omega arith))));
              others = λ k b. let ne : k ≢ place = omega arith in rw get_or-set_other (g.others k (omega arith));
            }

      -- all of them
      pub putting_done : (old : List ℕ) (before : List (List ℕ)) (place next at : ℕ) (buffer : List ℕ) (images : List (List ℕ)) → place ≡ 4 →
          Putting old before place next at buffer images → RoundPut parts old buffer before images
      unfolding round_list
      putting_done old before place next at buffer images e g =
          let whole : take place parts ≡ parts = take_all place parts (omega (arith, four_parts present records limit)) in
          record {
            written =
                g.put ∙ ap (λ (ps : List (List Burst)). put_part (front old) 0 start (pinned 0 ps)) whole
                ∙ put_all old x.writes (sum x.bytes) (pinned 0 parts) (d.writes_are ∙ sym (pinned_count 0 parts)) (total ∙ sym (pinned_sum 0 parts));
            taken = λ k h. g.taken k (omega (arith, e));
          }
