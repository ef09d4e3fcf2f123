use Rattle.std.proofs.Common.{◌≡◌, ◌+◌, ◌≤◌, length, drop}
use Rattle.proof_laws.specs.Refusal.{misplaced}
use Rattle.proof_rules.proofs.solution.misplaced.Given as goal

abbrev pub invariant-loop-at : goal.invariant-loop-at
invariant-loop-at l = record {
  same : misplaced 1 l.vars l.model ≡ misplaced (l.at + 1) l.vars (drop l.at l.model);
  within : l.at ≤ length l.model;
}
