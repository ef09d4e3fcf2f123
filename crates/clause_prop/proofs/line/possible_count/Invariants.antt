use Rattle.std.proofs.Common.{◌≡◌, ◌≤◌, take, sum_by}
use Rattle.scut_base.specs.Assignment.{partial_truth}
use Rattle.pb_lin.specs.Constraint.{unless_false}
use Rattle.clause_prop.specs.Steps.{partial}
use Rattle.clause_prop.proofs.line.possible_count.Given as goal

abbrev pub invariant-loop-lit : goal.invariant-loop-lit
invariant-loop-lit l = record {
  value : l.count ≡ sum_by (λ m. unless_false (partial_truth (partial l.trail) m) 1) (take l.lit-index l.lits);
  short : l.count ≤ l.lit-index;
}
