-- Each step lowers the limits, or leaves them.
use Rattle.std.proofs.Common.{◌∙◌, List, ℤ, sym, subst}
use Rattle.front_set.specs.Vector.{IsBelow}
use Rattle.front_set.proofs.FrontLaws.{IsBelow-refl, IsBelow-trans}
use Rattle.relaxations.proofs.linear_boxes.part_of.Goals as goal

pub loop-objective-init : goal.loop-objective-init
loop-objective-init c =
    let copied = rw c.new-part.ensures at c.in_ok-extend_from_slice.ensures.ok in
    subst (λ (v : List ℤ). IsBelow v c.args.limits.now) (sym (copied ∙ c.as_slice.ensures))
    (IsBelow-refl c.args.limits.now)

pub loop-objective-preserved : goal.loop-objective-preserved
loop-objective-preserved c =
    IsBelow-trans c.lower.new.numbers c.loop-objective.part c.args.limits.now c.lower.ensures c.loop-objective.invariant
