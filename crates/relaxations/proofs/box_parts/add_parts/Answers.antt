use Rattle.std.proofs.Common.{◌≡◌, ◌<◌, ◌+◌, ◌^◌, List, ℤ, ◌≤ℤ◌, length, arith, rules, subst, sym}
use Rattle.std.specs.Prelude.{pos, ◌-ℤ◌, slice_index_or, slice_set}
use Rattle.front_set.proofs.FrontLaws.{length-IsBelow}
use Rattle.relaxations.specs.Parts.{AddsBox, AddsParts}
use Rattle.relaxations.proofs.Boxing.{part_added, part_skipped}
use Rattle.relaxations.proofs.box_parts.add_parts.Goals as goal
use Rattle.relaxations.proofs.box_parts.add_parts.Goals.{in-Some+in_ok-part+in_ok-add_box, in_default}

pub one_less-requires : goal.one_less-requires
one_less-requires c =
    let same = length-IsBelow c.args.costs.now c.args.limits.now c.requires in
    let there : c.loop-objective.objective < length c.args.limits.now = search rules in
    omega (arith, same, there)

pub loop-objective-preserved : goal.loop-objective-preserved
loop-objective-preserved c =
    let k = c.loop-objective.objective in
    let limits = c.args.limits.now in
    let costs = c.args.costs.now in
    let there : k < length limits = search rules in
    elim c.match-one_less.branch [
      | in-Some+in_ok-part+in_ok-add_box w ↦
          (let is : w.in-Some.most ≡ slice_index_or costs k (pos 0) -ℤ pos 1 = search rules in
          let box : AddsBox c.loop-objective.boxes.items c.match-one_less.boxes.items (slice_set limits k w.in-Some.most) = search rules in
          part_added c.args.boxes.now.items c.loop-objective.boxes.items c.match-one_less.boxes.items limits costs k w.in-Some.most there c.requires is box c.loop-objective.invariant)
      | in_default w ↦
          (let least : slice_index_or costs k (pos 0) ≤ℤ (pos 0 -ℤ pos (2 ^ 63)) = search rules in
          let same : c.match-one_less.boxes.items ≡ c.loop-objective.boxes.items = search rules in
          subst (λ (bs : List (List ℤ)). AddsParts c.args.boxes.now.items bs limits costs (k + 1)) (sym same)
          (part_skipped c.args.boxes.now.items c.loop-objective.boxes.items limits costs k there least c.loop-objective.invariant))
    ]
