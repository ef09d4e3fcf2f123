use Rattle.std.proofs.Common.{refl}
use Rattle.proof_laws.specs.Refusal.{IsRupFault}
use Rattle.proof_rules.proofs.Conditions.{clause_judged}
use Rattle.proof_rules.proofs.judging.judge_learn.Goals as goal

pub returns-clause-verdict : goal.returns-clause-verdict
returns-clause-verdict c =
    clause_judged c.args.goal.now (IsRupFault c.args.reached.now c.args.goal.now c.args.hints.now) c.judge_rup.result (c.if-not-is_clause.ensures.0 refl) c.judge_rup.ensures.verdict
