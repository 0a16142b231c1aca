-- `images::high_ok` meets its contract: each test in the row is that of a range, and the ranges are the whole.
-- Assumes nothing.
use Rattle.std.proofs.Common.{◌≡◌, ◌∙◌, refl, ℕ, List, ◌&&◌, ◌+◌, ◌-◌, ◌*◌}
use Rattle.map.specs.Lists.{all_from}
use Rattle.map.specs.Map.{lines_of}
use Rattle.map.specs.Images.{ok_at}
use Rattle.images.proofs.Steps.{and_then, and_else}
use Rattle.images.proofs.Whole.{zero_commands, zero_gap, zero_levels, high_whole}
use Rattle.images.proofs.high_ok.Goals as goal
use Rattle.images.proofs.high_ok.Goals.{then-zeros, else-zeros, then-currents_ok, else-currents_ok, then-zeros-2, else-zeros-2}

pub returns-then-levels_ok : goal.returns-then-levels_ok
returns-then-levels_ok c =
    let m : ℕ = c.args.member in
    let image : List ℕ = c.args.image.now in
    let n : ℕ = c.lines-n.result in
    let commands = c.zeros.ensures ∙ zero_commands m image c.told-image in
    let currents : c.if-zeros.value ≡ (c.zeros.result && all_from (ok_at m image) 0x100 (18 * lines_of m)) =
    elim c.if-zeros.branch [
      | then-zeros w ↦ and_then _ _ _ w.if-zeros.true (w.value-is ∙ w.currents_ok.ensures)
      | else-zeros w ↦ and_else _ _ _ w.if-zeros.false w.value-is
    ] in
    let gap : c.if-currents_ok.value ≡ (c.if-zeros.value && all_from (ok_at m image) (256 + 18 * n) (512 - (256 + 18 * n))) =
    elim c.if-currents_ok.branch [
      | then-currents_ok w ↦ and_then _ _ _ w.if-currents_ok.true (w.value-is ∙ w.zeros-then-currents_ok.ensures ∙ zero_gap m image n c.told-image c.lines-n.ensures.0)
      | else-currents_ok w ↦ and_else _ _ _ w.if-currents_ok.false w.value-is
    ] in
    let levels : c.if-zeros-2.value ≡ (c.if-currents_ok.value && all_from (ok_at m image) 0x200 (36 * lines_of m)) =
    elim c.if-zeros-2.branch [
      | then-zeros-2 w ↦ and_then _ _ _ w.if-zeros-2.true (w.value-is ∙ w.levels_ok.ensures)
      | else-zeros-2 w ↦ and_else _ _ _ w.if-zeros-2.false w.value-is
    ] in
    let rest = and_then _ _ _ c.if-levels_ok.true (c.zeros-then-levels_ok.ensures ∙ zero_levels m image n c.told-image c.lines-n.ensures.0) in
    let whole = high_whole m image n c.lines-n.ensures.0 in
    cc

pub returns-else-levels_ok : goal.returns-else-levels_ok
returns-else-levels_ok c =
    let m : ℕ = c.args.member in
    let image : List ℕ = c.args.image.now in
    let n : ℕ = c.lines-n.result in
    let commands = c.zeros.ensures ∙ zero_commands m image c.told-image in
    let currents : c.if-zeros.value ≡ (c.zeros.result && all_from (ok_at m image) 0x100 (18 * lines_of m)) =
    elim c.if-zeros.branch [
      | then-zeros w ↦ and_then _ _ _ w.if-zeros.true (w.value-is ∙ w.currents_ok.ensures)
      | else-zeros w ↦ and_else _ _ _ w.if-zeros.false w.value-is
    ] in
    let gap : c.if-currents_ok.value ≡ (c.if-zeros.value && all_from (ok_at m image) (256 + 18 * n) (512 - (256 + 18 * n))) =
    elim c.if-currents_ok.branch [
      | then-currents_ok w ↦ and_then _ _ _ w.if-currents_ok.true (w.value-is ∙ w.zeros-then-currents_ok.ensures ∙ zero_gap m image n c.told-image c.lines-n.ensures.0)
      | else-currents_ok w ↦ and_else _ _ _ w.if-currents_ok.false w.value-is
    ] in
    let levels : c.if-zeros-2.value ≡ (c.if-currents_ok.value && all_from (ok_at m image) 0x200 (36 * lines_of m)) =
    elim c.if-zeros-2.branch [
      | then-zeros-2 w ↦ and_then _ _ _ w.if-zeros-2.true (w.value-is ∙ w.levels_ok.ensures)
      | else-zeros-2 w ↦ and_else _ _ _ w.if-zeros-2.false w.value-is
    ] in
    let rest = and_else _ _ (all_from (ok_at m image) (512 + 36 * n) (908 - (512 + 36 * n))) c.if-levels_ok.false refl in
    let whole = high_whole m image n c.lines-n.ensures.0 in
    cc
