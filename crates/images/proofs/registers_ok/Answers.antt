-- `images::registers_ok` meets its contract.
-- Assumes nothing.
use Rattle.std.proofs.Common.{◌≡◌, ◌∙◌, refl, sym, ℕ, List, ◌&&◌, ltb}
use borrow.Author.Tests.{lt-ltb, le-ltb}
use Rattle.map.specs.Lists.{all_from}
use Rattle.map.specs.Images.{ok_at}
use Rattle.images.proofs.Steps.{and_then, and_else}
use Rattle.images.proofs.Whole.{size_refused, of_size}
use Rattle.images.proofs.registers_ok.Goals as goal
use Rattle.images.proofs.registers_ok.Goals.{then-member-lt-MEMBERS, else-member-lt-MEMBERS}

pub returns-in_default : goal.returns-in_default
returns-in_default c = sym (size_refused _ _ c.in_default.ensures.1)

pub returns-then-low_ok : goal.returns-then-low_ok
returns-then-low_ok c =
    let m : ℕ = c.args.member in
    let image : List ℕ = c.args.image.now in
    let same = c.in-Ok.ensures.1.same in
    let low : c.if-member-lt-MEMBERS.value ≡ (ltb m 5 && all_from (ok_at m c.in-Ok.image.now) 0 100) =
    elim c.if-member-lt-MEMBERS.branch [
      | then-member-lt-MEMBERS w ↦ and_then _ _ _ (lt-ltb m 5 w.if-member-lt-MEMBERS.true) (w.value-is ∙ w.low_ok.ensures)
      | else-member-lt-MEMBERS w ↦ and_else _ _ _ (le-ltb m 5 w.if-member-lt-MEMBERS.false) w.value-is
    ] in
    let high = and_then _ _ _ c.if-low_ok.true c.high_ok.ensures in
    let whole = of_size m image c.in-Ok.ensures.1.long in
    cc

pub returns-else-low_ok : goal.returns-else-low_ok
returns-else-low_ok c =
    let m : ℕ = c.args.member in
    let image : List ℕ = c.args.image.now in
    let same = c.in-Ok.ensures.1.same in
    let low : c.if-member-lt-MEMBERS.value ≡ (ltb m 5 && all_from (ok_at m c.in-Ok.image.now) 0 100) =
    elim c.if-member-lt-MEMBERS.branch [
      | then-member-lt-MEMBERS w ↦ and_then _ _ _ (lt-ltb m 5 w.if-member-lt-MEMBERS.true) (w.value-is ∙ w.low_ok.ensures)
      | else-member-lt-MEMBERS w ↦ and_else _ _ _ (le-ltb m 5 w.if-member-lt-MEMBERS.false) w.value-is
    ] in
    let high = and_else _ _ (all_from (ok_at m c.in-Ok.image.now) 0x0A7 741) c.if-low_ok.false refl in
    let whole = of_size m image c.in-Ok.ensures.1.long in
    cc
