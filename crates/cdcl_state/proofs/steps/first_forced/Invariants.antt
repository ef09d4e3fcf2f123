use Rattle.std.proofs.Common.{◌≤◌, length, take}
use Rattle.std.specs.Prelude.{All}
use Rattle.pb_lin.specs.Constraint.{literals}
use Rattle.cdcl_state.specs.Searching.{IsNotForcedBefore}
use Rattle.cdcl_state.proofs.steps.first_forced.Given as goal

abbrev pub invariant-loop-lit : goal.invariant-loop-lit
invariant-loop-lit l = record {
  within : l.first ≤ length l.trail.steps;
  others : All (IsNotForcedBefore l.trail l.first l.id) (take l.lit-index (literals l.line.terms));
}
