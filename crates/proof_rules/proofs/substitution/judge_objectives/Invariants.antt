use Rattle.std.proofs.Common.{◌≡◌, ◌+◌, drop, length}
use Rattle.proof_laws.specs.Substituted.{none_risen}
use Rattle.proof_rules.proofs.FirstFaults.{RestDecides}
use Rattle.proof_rules.proofs.substitution.judge_objectives.Given as goal

abbrev pub invariant-loop-at : goal.invariant-loop-at
invariant-loop-at l = record {
  length : length l.scratch ≡ length l.fn.scratch;
  rest : RestDecides l.reached l.line.goal.now l.line.proofs.now (none_risen l.line.witness.now (l.at + 1) (drop l.at l.rows)) (none_risen l.line.witness.now 1 l.rows);
}
