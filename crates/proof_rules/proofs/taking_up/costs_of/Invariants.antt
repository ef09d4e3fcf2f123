use Rattle.std.proofs.Common.{◌≡◌, map, take}
use Rattle.pb_lin.specs.CostRow.{row_cost}
use Rattle.proof_rules.proofs.taking_up.costs_of.Given as goal

abbrev pub invariant-loop-row : goal.invariant-loop-row
invariant-loop-row l = l.costs ≡ map (row_cost l.a) (take l.row-index l.rows)
