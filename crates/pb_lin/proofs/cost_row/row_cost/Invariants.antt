use Rattle.std.proofs.Common.{◌≡◌, ◌≤◌, take}
use Rattle.pb_lin.specs.Constraint.{total, value}
use Rattle.pb_lin.proofs.cost_row.row_cost.Given as goal

abbrev pub invariant-loop-term : goal.invariant-loop-term
invariant-loop-term l = record {
  value : l.value ≡ value l.a (take l.term-index l.term-items);
  bound : l.value ≤ total (take l.term-index l.term-items);
}
