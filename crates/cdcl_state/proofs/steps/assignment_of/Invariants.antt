use Rattle.std.proofs.Common.{◌≡◌, length}
use Rattle.cdcl_state.proofs.StepsBefore.{AreTrueBefore}
use Rattle.cdcl_state.proofs.steps.assignment_of.Given as goal

abbrev pub invariant-loop-place : goal.invariant-loop-place
invariant-loop-place l = record {
  variables : length l.a ≡ l.trail.vars;
  true_so_far : AreTrueBefore l.trail l.place l.a;
}
