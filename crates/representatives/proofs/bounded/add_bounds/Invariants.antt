use Rattle.std.proofs.Common.{◌≡◌, List, ◌++◌, take}
use Rattle.pb_lin.specs.Constraint.{ConstraintValue}
use Rattle.representatives.specs.Bounded.{AreCostBounds}
use Rattle.representatives.proofs.bounded.add_bounds.Given as goal

abbrev pub invariant-loop-i : goal.invariant-loop-i
invariant-loop-i l = (bounds : List ConstraintValue) × AreCostBounds (take l.i l.costs) (take l.i l.numbers) bounds × (l.rows ≡ l.initial.rows ++ bounds)
