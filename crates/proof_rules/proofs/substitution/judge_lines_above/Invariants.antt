use Rattle.std.proofs.Common.{◌≡◌, ◌-◌, ◌^◌, length}
use Rattle.std.specs.FinMap.{entries}
use Rattle.proof_laws.specs.Substituted.{touched_hold}
use Rattle.proof_rules.proofs.FirstFaults.{RestDecides}
use Rattle.proof_rules.specs.Verdict.{above}
use Rattle.proof_rules.proofs.substitution.judge_lines_above.Given as goal

abbrev pub invariant-loop-next : goal.invariant-loop-next
invariant-loop-next l = record {
  length : length l.scratch ≡ length l.fn.scratch;
  rest : RestDecides l.reached l.line.goal.now l.line.proofs.now (touched_hold l.line.witness.now (above l.id (entries l.reached.live))) (touched_hold l.line.witness.now (above l.first (entries l.reached.live)));
}

abbrev pub decreases-loop-next : goal.decreases-loop-next
decreases-loop-next l = 2 ^ 64 - l.id
