use Rattle.pb_lin.proofs.Variables.{under_upto}
use Rattle.proof_laws.specs.Substituted.{holds_after}
use Rattle.proof_rules.proofs.GoalFaults.{goal_verdict}
use Rattle.proof_rules.proofs.substitution.judge_after.Goals as goal

pub judge_goal-requires-clause-open : goal.judge_goal-requires-clause-open
judge_goal-requires-clause-open c =
    under_upto c.in-Ok.goal c.args.c.now c.args.line.now.witness.now c.args.reached.now.vars c.len-normal_goal.ensures.normal c.in-Ok.ensures.under
    (λ k d short. (c.len-normal.ensures.normal.merged.from_one k d short, c.requires.line k d short)) c.requires.images

pub returns-in-Ok-clause-verdict : goal.returns-in-Ok-clause-verdict
returns-in-Ok-clause-verdict c =
    goal_verdict c.args.reached.now c.args.line.now.goal.now c.args.line.now.proofs.now (holds_after c.args.line.now.witness.now c.args.name c.args.c.now) c.in-Ok.goal
    (λ over. let never = c.in-Ok.ensures.overflow.1 over in cc) (c.len-normal_goal.ensures.normal, c.in-Ok.ensures.under) c.judge_goal.result c.judge_goal.ensures.verdict
