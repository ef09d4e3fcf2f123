use Rattle.std.proofs.Common.{◌≡◌, ◌≤◌, take, sum_by}
use Rattle.pb_lin.specs.Constraint.{possible_value, total}
use Rattle.clause_prop.specs.Steps.{partial}
use Rattle.clause_prop.proofs.line.possible.Given as goal

abbrev pub invariant-loop-at : goal.invariant-loop-at
invariant-loop-at l = record {
  value : l.sum ≡ sum_by (possible_value (partial l.trail)) (take l.at l.line.terms);
  bound : l.sum ≤ total (take l.at l.line.terms);
}
