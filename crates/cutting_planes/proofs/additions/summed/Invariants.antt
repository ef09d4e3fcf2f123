use Rattle.std.proofs.Common.{◌-◌, ◌≤◌, List, ◌∷◌, length}
use Rattle.pb_lin.specs.Constraint.{ConstraintValue}
use Rattle.pb_lin.specs.Given.{given_of}
use Rattle.cutting_planes.specs.Runs.{LeadsTo}
use Rattle.cutting_planes.proofs.additions.summed.Given as goal

abbrev pub invariant-loop-at : goal.invariant-loop-at
invariant-loop-at l = record {
  bound : l.at ≤ length l.tokens;
  leads : (stack : List ConstraintValue) → LeadsTo (given_of l.lines l.negated l.denied) l.tokens (l.fn.start ∷ stack) l.at (l.sum ∷ stack);
}

abbrev pub decreases-loop-at : goal.decreases-loop-at
decreases-loop-at l = length l.tokens - l.at
