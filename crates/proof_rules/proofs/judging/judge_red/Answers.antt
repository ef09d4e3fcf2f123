use Rattle.std.proofs.lemmas.Result.{err_from_is_err_and}
use Rattle.pb_lin.specs.Constraint.{ConstraintValue, negation, size}
use Rattle.proof_laws.specs.Substituted.{redundance}
use Rattle.proof_laws.specs.Refusal.{IsFirstGoalFault, size_fault}
use Rattle.proof_rules.proofs.Verdicts.{first_passed, first_refused}
use Rattle.proof_rules.proofs.judging.judge_red.Goals as goal

pub returns-in_err-denied-clause-verdict : goal.returns-in_err-denied-clause-verdict
returns-in_err-denied-clause-verdict c =
    let goals = IsFirstGoalFault c.args.reached.now c.args.goal.now c.args.proofs.now (redundance c.args.problem.now c.args.reached.now c.args.witness.now c.args.goal.now) in
    let p = err_from_is_err_and c.from_residual.result c.from_residual.ensures.1 in
    rw (p.1, p.2) (first_refused ConstraintValue (Unit {0}) (size_fault (size (negation c.args.goal.now))) goals c.in_err-denied.field-0.0 c.in_err-denied.ensures.verdict)

pub returns-clause-verdict : goal.returns-clause-verdict
returns-clause-verdict c =
    let goals = IsFirstGoalFault c.args.reached.now c.args.goal.now c.args.proofs.now (redundance c.args.problem.now c.args.reached.now c.args.witness.now c.args.goal.now) in
    first_passed (Unit {0}) (size_fault (size (negation c.args.goal.now))) goals c.judge_redundance.result c.in_ok-denied.ensures.verdict c.judge_redundance.ensures.verdict
