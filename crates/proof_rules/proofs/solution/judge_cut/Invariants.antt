use Rattle.std.proofs.Common.{◌≤◌, Option, length}
use Rattle.proof_laws.specs.Refusal.{IsCutFault}
use Rattle.proof_laws.specs.declared.why.Why.{Why}
use Rattle.proof_rules.proofs.Cuts.{IsFaultFrom}
use Rattle.proof_rules.proofs.solution.judge_cut.Given as goal

abbrev pub invariant-loop-at : goal.invariant-loop-at
invariant-loop-at l = record {
  rest : (fault : Option Why) → IsFaultFrom l.lines l.cut l.a l.costs l.ids l.at fault → IsCutFault l.lines l.cut l.a 1 l.costs l.ids fault;
  costs : l.at ≤ length l.costs;
  ids : l.at ≤ length l.ids;
}
