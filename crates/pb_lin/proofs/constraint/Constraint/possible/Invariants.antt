use Rattle.std.proofs.Common.{◌≡◌, ◌≤◌, take, sum_by}
use Rattle.pb_lin.specs.Constraint.{possible_value, total}
use Rattle.pb_lin.proofs.constraint.Constraint.possible.Given as goal

abbrev pub invariant-loop-at : goal.invariant-loop-at
invariant-loop-at l = record {
  value : l.sum ≡ sum_by (possible_value l.part) (take l.at l.self.terms);
  bound : l.sum ≤ total (take l.at l.self.terms);
}
