use Rattle.std.proofs.Common.{◌-◌, length}
use Rattle.cdcl_state.specs.Minimising.{IsVerdict}
use Rattle.cdcl_state.proofs.implied.Implied.read.Given as goal

abbrev pub invariant-loop-done : goal.invariant-loop-done
invariant-loop-done l = IsVerdict (length l.trail.steps) l.verdict

abbrev pub decreases-loop-done : goal.decreases-loop-done
decreases-loop-done l = length l.lits - l.done
