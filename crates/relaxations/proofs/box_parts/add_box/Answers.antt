use Rattle.std.proofs.Common.{◌≡◌, ◌++◌, ◌∷◌, [], List, ℤ, Some, rules, subst, sym}
use Rattle.front_set.specs.Vector.{is_below}
use Rattle.relaxations.specs.Parts.{AddsBox, first_around, not_within}
use Rattle.scut_base.proofs.Lists.{passes_from_place}
use Rattle.relaxations.proofs.Boxing.{pushed_adds, within_adds}
use Rattle.relaxations.proofs.box_parts.add_box.Goals as goal

pub returns-in-Some : goal.returns-in-Some
returns-in-Some c =
    let boxes = c.args.boxes.now.items in
    let found : first_around boxes c.args.limits ≡ Some c.in-Some._around = search rules in
    let around = passes_from_place (λ (other : List ℤ). is_below c.args.limits other) 0 c.in-Some._around boxes found in
    within_adds boxes c.args.limits around.0 around.1 around.2

pub returns : goal.returns
returns c =
    let boxes = c.args.boxes.now.items in
    let items : c.push.new.self.items ≡ not_within c.args.limits boxes ++ c.args.limits ∷ [] = search rules in
    subst (λ (bs : List (List ℤ)). AddsBox boxes bs c.args.limits) (sym items) (pushed_adds boxes c.args.limits)
