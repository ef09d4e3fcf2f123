use Rattle.std.proofs.Common.{◌≡◌, drop, length}
use Rattle.proof_laws.specs.State.{numbered}
use Rattle.proof_laws.specs.Substituted.{touched_hold}
use Rattle.proof_rules.proofs.FirstFaults.{RestDecides}
use Rattle.proof_rules.proofs.TouchedRows.{rows_at}
use Rattle.proof_rules.proofs.substitution.judge_rows.Given as goal

abbrev pub invariant-loop-place : goal.invariant-loop-place
invariant-loop-place l = record {
  length : length l.scratch ≡ length l.fn.scratch;
  rest : RestDecides l.reached l.line.goal.now l.line.proofs.now (touched_hold l.line.witness.now (rows_at l.rows (drop l.place-index l.line.touched.now))) (touched_hold l.line.witness.now (numbered 1 l.rows));
}
