use Rattle.std.proofs.Common.{◌≡◌, ◌≤◌, take}
use Rattle.pb_lin.specs.Constraint.{value, total}
use Rattle.pb_lin.proofs.constraint.Constraint.value.Given as goal

abbrev pub invariant-loop-at : goal.invariant-loop-at
invariant-loop-at l = record {
  value : l.sum ≡ value l.a (take l.at l.self.terms);
  bound : l.sum ≤ total (take l.at l.self.terms);
}
