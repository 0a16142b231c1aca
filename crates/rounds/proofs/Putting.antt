-- The loop that writes a part of a list.
-- Assumes nothing.
use mathlib.Core.Path.{◌≡◌, sym, ap, ◌∙◌}
use mathlib.Core.Logic.{◌⊎◌, inl, inr}
use mathlib.Core.List.{List, [], ◌++◌, map}
use Rattle.std.specs.Prelude.{Some, None}
use Prim.Native.Nat.{ℕ, ◌+◌, ◌-◌, ◌*◌, ◌≤◌, ◌<◌}
use native.Mathlib.Omega.{arith}
use lib.ListN.{length, take, drop, length-append, length-map}
use lib.Seq.{sets}
use Rattle.burst.specs.Burst.{Burst, put_size, sizes_bytes, joined, transaction_of}
use Rattle.plan.specs.Plan.{Write}
use Rattle.plan.specs.NextLaws.{one}
use Rattle.plan.specs.Update.{data_of, store_all}
use Rattle.plan.specs.Portion.{portion}
use Rattle.host.specs.declared.Record.{Record}
use Rattle.host.proofs.SoundLaws.{Sound}
use Rattle.writes.specs.declared.scan.Write as found
use Rattle.writes.specs.WrittenLaws.{lengths_are}
use Rattle.writes.specs.PutLaws.{Put, put_start, put_more, Taken, taken_start, taken_more}
use Rattle.update.specs.Update.{writes_of}
use Rattle.rounds.specs.Parts.{Open, Shut, Begun, NextPart, Fits}
use Rattle.rounds.specs.Dealing.{put_part, part_transactions}
use Rattle.rounds.proofs.Portions.{Going, going_start, going_more}

module _ (r : Record) where
  -- so far there are no more writes than in all
  pub begun_few : (room from left : ℕ) (ws : List Write) → Begun r room from left ws → length ws ≤ length (portion room (writes_of r))
  begun_few room from left ws g = go g.goes
    where
      count : length (map (data_of r.settings) ws) ≡ length ws
      count = length-map ws (data_of r.settings)

      go : Open r room from left ws ⊎ Shut r room left ws → length ws ≤ length (portion room (writes_of r))
      go (inl q) =
          omega (arith, ap length q.is, length-append (map (data_of r.settings) ws) (portion left (map (data_of r.settings) q.rest)), count)
      go (inr q) = omega (arith, ap length q.is, count)

  module _ (old before : List ℕ) (index at room : ℕ) where
    -- the next transaction's index is `next`
    pub record Putting (next from left : ℕ) (buffer image : List ℕ) : Type 0 where
      pub ws : List Write
      pub next_is : next ≡ index + length ws
      pub going : Going r room from left ws
      pub put : Put r.header r.settings old (4 + 2 * index) at ws buffer
      pub taken : Taken r.settings before ws image

    pub putting_start : Sound r → Putting index 0 room old before
    putting_start s = record {
      ws = [];
      next_is = omega arith;
      going = going_start r s room;
      put = put_start r.header r.settings old (4 + 2 * index) at;
      taken = taken_start r.settings before;
    }

    module _ (s : Sound r) (free : 4 + 2 * (index + length (portion room (writes_of r))) ≤ at) (next from left : ℕ) (buffer image : List ℕ)
        (g : Putting next from left buffer image) where
      module _ (w : found.Write) (f : Fits left w) (n : NextPart r from left (Some w)) where
        -- the next length stands before the transactions
        pub putting_free : 4 + 2 * next + 2 ≤ at
        putting_free =
            omega (
              arith,
              g.next_is,
              length-append g.ws (one w.start w.end),
              begun_few room w.end (left - (w.end - w.start + 2)) (g.ws ++ one w.start w.end) (n room g.ws g.going.begun),
            )

        pub putting_more : (stop : ℕ) → stop ≡ at + room → (mid new after-image : List ℕ) → mid ≡ put_size buffer (4 + 2 * next) (w.end - w.start + 2) →
            new
            ≡ sets mid (stop - left)
            (transaction_of r.header.bus r.header.pins (data_of r.settings (record { start = w.start; len = w.end - w.start }))) →
            after-image ≡ sets image w.start (take (w.end - w.start) (drop w.start r.settings)) →
            Putting (next + 1) w.end (left - (w.end - w.start + 2)) new after-image
        putting_more stop e mid new after-image em en et = record {
          ws = g.ws ++ one w.start w.end;
          next_is = omega (arith, g.next_is, length-append g.ws (one w.start w.end));
          going = going_more r room from left g.ws g.going w f n;
          put =
              put_more r.header r.settings old (4 + 2 * index) at g.ws buffer g.put w.start w.end (4 + 2 * next) (stop - left)
              (omega (arith, f.some)) (omega (arith, f.most, s.settings.size)) (omega (arith, g.next_is)) putting_free
              (omega (arith, g.going.begun.spent)) mid new em en;
          taken = taken_more r.settings before g.ws image g.taken w.start w.end after-image et;
        }

      -- all of it is written
      pub putting_done : NextPart r from left None →
          (next ≡ index + length (portion room (writes_of r)))
          × (buffer ≡ put_part old index at (part_transactions r room))
          × (image ≡ store_all (portion room (writes_of r)) before)
      putting_done n =
          let is = n room g.ws g.going.begun in (
            omega (arith, g.next_is, ap length is, length-map g.ws (data_of r.settings)),
            g.put.written
                ∙ ap (λ (l : List ℕ). sets (sets old (4 + 2 * index) (sizes_bytes l)) at (joined (map (transaction_of r.header.bus r.header.pins) (map (data_of r.settings) g.ws))))
                (sym (lengths_are r.header r.settings g.ws g.put.inside))
                ∙ ap (λ (xs : List Burst). put_part old index at (map (transaction_of r.header.bus r.header.pins) xs)) (sym is),
            g.taken.is ∙ ap (λ (xs : List Burst). store_all xs before) (sym is),
          )
