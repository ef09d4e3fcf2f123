use Rattle.std.proofs.Common.{◌≡◌, map, take}
use Rattle.pb_lin.specs.CostRow.{row_cost}
use Rattle.search_base.proofs.costs.costs_at.Given as goal

abbrev pub invariant-loop-row : goal.invariant-loop-row
invariant-loop-row l = l.costs ≡ map (row_cost l.a) (take l.row-index l.problem.costs)
