-- Demand 3 in the words of those who watch the lamps: with chip enable wanted on no lamp is stale after an accepted Update, nor once the
-- chip is finished.
-- Assumes nothing.
use Rattle.std.specs.Prelude.{◌≡◌, refl, true, List, [], ℕ, ◌+◌, ◌*◌, ◌/◌, ◌%◌, ◌^◌, get_or}
use Rattle.std.proofs.Common.{ap, ap₂, arith}
use Rattle.map.specs.declared.dots.Field.TheVariants.{Group, Switch}
use Rattle.map.specs.Refusals.{accepted}
use Rattle.map.specs.Map.{is_dot, dot_number, address_of, shift_of, width_of}
use Rattle.map.specs.Images.{reset_image}
use Rattle.map.specs.Carries.{first, group, switch, pwm8, low, high}
use Rattle.map.specs.PlaceLaws.{dot_member}
use Rattle.map.specs.WritableLaws.{carries_writable}
use Rattle.dots.specs.Dots.{level_of, field_of, wide_of}
use Rattle.host.specs.Record.{open_of}
use Rattle.update.specs.Update.{writes_of}
use Rattle.history.specs.declared.World.{World}
use Rattle.history.specs.Ledger.{entries, wants_on}
use Rattle.history.specs.History.{start}
use Rattle.demand.specs.Events.{Event, run, world_after, told, ledger_after}
use Rattle.demand.specs.Demand.{SameWritable, Updates, Demand3}
use Rattle.demand.proofs.Theorem.{whole_lists}

-- two images say the same of the dot at line l, sink s: its level, each read in the image's own data mode, its group and its switch
pub record SameLamp (x y : List ℕ) (l s : ℕ) : Type 0 where
  pub level : level_of x (dot_number l s) ≡ level_of y (dot_number l s)
  pub group : field_of Group x l s ≡ field_of Group y l s
  pub switch : field_of Switch x l s ≡ field_of Switch y l s

-- images with the same writable bytes do so of every dot that exists
pub same_lamp : (m : ℕ) (x y : List ℕ) → SameWritable m x y → (l s : ℕ) → is_dot m l s ≡ true → SameLamp x y l s
unfolding level_of field_of wide_of address_of
same_lamp m x y e l s d =
    let mode : get_or x 0x001 0 ≡ get_or y 0x001 0 = e 0x001 (carries_writable m 0x001 (first (dot_member m l s d) (omega arith))) in
    let wide : get_or x (0x200 + 2 * dot_number l s) 0 + 256 * get_or x (0x200 + 2 * dot_number l s + 1) 0 ≡ get_or y (0x200 + 2 * dot_number l s) 0 + 256 * get_or y (0x200 + 2 * dot_number l s + 1) 0 =
    ap₂ (λ (u v : ℕ). u + 256 * v) (e _ (carries_writable m _ (low l s d refl))) (e _ (carries_writable m _ (high l s d refl))) in
    let narrow : get_or x (0x200 + dot_number l s) 0 ≡ get_or y (0x200 + dot_number l s) 0 = e _ (carries_writable m _ (pwm8 l s d refl)) in
    record {
      level = rw (mode, wide, narrow) refl;
      group = ap (λ (v : ℕ). v / 2 ^ shift_of Group s % 2 ^ width_of Group) (e _ (carries_writable m _ (group l s d refl)));
      switch = ap (λ (v : ℕ). v / 2 ^ shift_of Switch s % 2 ^ width_of Switch) (e _ (carries_writable m _ (switch l s d refl)));
    }

-- so that demand 3 says it of every lamp
pub lamps_owed : (m b p : ℕ) (s : List ℕ) (w : World) (events : List Event) → Demand3 m b p s w events → (before : List Event) (buffer : List ℕ) (n t stored : ℕ) →
    Updates w events before [] buffer n t stored → wants_on (entries m s (told w events)) ≡ true → (l k : ℕ) → is_dot m l k ≡ true →
    SameLamp (run w events).chip.registers (entries m s (told w events)) l k
lamps_owed m b p s w events d before buffer n t stored u on =
    same_lamp m (run w events).chip.registers (entries m s (told w events)) ((d.last before buffer n t stored u).values on)

-- No lamp is stale: each one reads from the chip what the ledger says.
pub no_lamp_stale : (m b p : ℕ) → accepted (open_of m b p).answer ≡ true → (events before : List Event) (buffer : List ℕ) (n t stored : ℕ) →
    Updates (start m b p) events before [] buffer n t stored → wants_on (ledger_after m b p events) ≡ true → (l s : ℕ) → is_dot m l s ≡ true →
    SameLamp (world_after m b p events).chip.registers (ledger_after m b p events) l s
no_lamp_stale m b p o events = lamps_owed m b p (reset_image m) (start m b p) events (whole_lists m b p o events)

-- Nor is one of a chip that is finished, whatever the last event was.
pub finished_lamps : (m b p : ℕ) → accepted (open_of m b p).answer ≡ true → (events : List Event) → writes_of (world_after m b p events).host ≡ [] →
    wants_on (ledger_after m b p events) ≡ true → (l s : ℕ) → is_dot m l s ≡ true →
    SameLamp (world_after m b p events).chip.registers (ledger_after m b p events) l s
finished_lamps m b p o events none on =
    same_lamp m (world_after m b p events).chip.registers (ledger_after m b p events) ((whole_lists m b p o events).finished none on)
