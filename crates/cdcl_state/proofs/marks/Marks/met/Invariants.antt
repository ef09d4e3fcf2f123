use Rattle.cdcl_state.specs.Walking.{AreVariables}
use Rattle.cdcl_state.proofs.marks.Marks.met.Given as goal

abbrev pub invariant-loop-place : goal.invariant-loop-place
invariant-loop-place l = AreVariables l.trail.vars l.met
