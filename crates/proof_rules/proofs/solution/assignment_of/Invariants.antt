use Rattle.std.proofs.Common.{◌≡◌, length, take}
use Rattle.proof_laws.specs.Refusal.{assignment_of}
use Rattle.proof_rules.proofs.solution.assignment_of.Given as goal

abbrev pub invariant-loop-literal : goal.invariant-loop-literal
invariant-loop-literal l = record {
  long : length l.a ≡ length l.model;
  values : take l.literal-index l.a ≡ assignment_of (take l.literal-index l.model);
}
