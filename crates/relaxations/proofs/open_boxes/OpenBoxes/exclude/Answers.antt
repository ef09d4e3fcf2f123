use Rattle.std.proofs.Common.{◌≡◌, ◌+◌, ◌++◌, [], ◌∷◌, List, ℤ, false, length, take, rules, subst, sym}
use Rattle.std.proofs.Math.Seq.{take-suc}
use Rattle.front_set.specs.Vector.{is_below, IsBelow}
use Rattle.relaxations.specs.Boxes.{Excludes}
use Rattle.relaxations.specs.Parts.{AddsBox, AddsParts}
use Rattle.relaxations.proofs.Boxing.{box_falls, box_stays}
use Rattle.relaxations.proofs.open_boxes.OpenBoxes.exclude.Goals as goal
use Rattle.relaxations.proofs.open_boxes.OpenBoxes.exclude.Goals.{then-is_below+in_ok-add_parts, else-is_below+in_ok-copy+in_ok-add_box}

pub loop-limits-preserved : goal.loop-limits-preserved
loop-limits-preserved c =
    let boxes = c.deref-limits-items.result.now in
    let k = c.loop-limits.limits-index in
    let costs = c.args.costs.now in
    let limits = c.limits-item.result in
    let before = c.loop-limits.remaining.items in
    let after = c.if-is_below.remaining.items in
    let one-more : take (k + 1) boxes ≡ take k boxes ++ limits ∷ [] = search (rules, take-suc boxes k limits) in
    subst (λ (done : List (List ℤ)). Excludes done after costs) (sym one-more) (elim c.if-is_below.branch [
      | then-is_below+in_ok-add_parts w ↦
          (let within : IsBelow costs limits = search rules in
          let parts : AddsParts before after limits costs (length limits) = search rules in
          box_falls (take k boxes) before after limits costs within parts c.loop-limits.invariant)
      | else-is_below+in_ok-copy+in_ok-add_box w ↦
          (let outside : is_below costs limits ≡ false = search rules in
          let box : AddsBox before after limits = search rules in
          box_stays (take k boxes) before after limits costs outside box c.loop-limits.invariant)
    ])
