-- The sums so far are a run.
use Rattle.std.proofs.Common.{◌≤◌, ◌-◌}
use Rattle.sum_outputs.specs.Sums.{IsRun}
use Rattle.sum_outputs.proofs.falling.new_sums.Given as goal

abbrev pub invariant-loop-end : goal.invariant-loop-end
invariant-loop-end l = record {
  run : IsRun l.node l.k l.last l.sums l.end;
  most : l.end ≤ l.node.greatest;
}

abbrev pub decreases-loop-end : goal.decreases-loop-end
decreases-loop-end l = l.node.greatest - l.end
