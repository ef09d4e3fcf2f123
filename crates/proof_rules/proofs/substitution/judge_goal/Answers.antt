use Rattle.std.proofs.Common.{◌<◌, arith, subst, sym}
use Rattle.pb_lin.specs.Constraint.{UpTo}
use Rattle.proof_rules.proofs.GoalFaults.{negation_upto, proved_verdict}
use Rattle.proof_rules.proofs.substitution.judge_goal.Goals as goal

pub judge_proof-requires-clause-denied : goal.judge_proof-requires-clause-denied
judge_proof-requires-clause-denied c = subst (UpTo c.args.reached.now.vars) (sym c.requires.denied) (negation_upto c.args.reached.now.vars c.args.line.now.goal.now c.requires.goal)

pub judge_proof-requires-clause-negated : goal.judge_proof-requires-clause-negated
judge_proof-requires-clause-negated c = subst (UpTo c.args.reached.now.vars) (sym c.in_ok-negated.ensures.value) (negation_upto c.args.reached.now.vars c.args.goal.now c.requires.open)

pub returns-clause-verdict : goal.returns-clause-verdict
returns-clause-verdict c =
    let opened : 0 < c.args.goal.now.degree = omega arith in
    proved_verdict c.args.reached.now c.args.line.now.goal.now c.args.line.now.proofs.now c.args.name c.args.goal.now c.in_ok-negated.negated c.args.line.now.denied.now c.in-Some.proof.now
    opened (sym c.in-Some.ensures) c.in_ok-negated.ensures.value c.requires.denied c.in_ok-negated.ensures.verdict c.judge_proof.result c.judge_proof.ensures.verdict
