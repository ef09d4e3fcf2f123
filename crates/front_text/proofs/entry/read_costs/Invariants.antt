use Rattle.std.proofs.Common.{length}
use Rattle.front_text.proofs.Costs.{CostsSoFar}
use Rattle.front_text.proofs.entry.read_costs.Given as goal

abbrev pub invariant-loop-cursor : goal.invariant-loop-cursor
invariant-loop-cursor l = CostsSoFar l.fn.cursor l.cursor l.costs

abbrev pub decreases-loop-cursor : goal.decreases-loop-cursor
decreases-loop-cursor l = length l.cursor
