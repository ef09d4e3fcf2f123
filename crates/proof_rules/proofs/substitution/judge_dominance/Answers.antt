use Rattle.std.proofs.Common.{◌<◌, ◌^◌, [], ◌∷◌, ◌++◌, arith}
use Rattle.std.proofs.lemmas.Result.{err_from_is_err_and}
use Rattle.proof_laws.specs.State.{numbered}
use Rattle.proof_laws.specs.Substituted.{none_risen, has_fallen, touched_hold, dominance}
use Rattle.proof_rules.proofs.FirstFaults.{decides_all, decides_more, decided, decided_fault, one_verdict}
use Rattle.proof_rules.proofs.GoalFaults.{goal_verdict}
use Rattle.proof_rules.proofs.substitution.judge_dominance.Goals as goal

pub returns-in_err-judge_rows-clause-verdict : goal.returns-in_err-judge_rows-clause-verdict
returns-in_err-judge_rows-clause-verdict c =
    let s = c.args.reached.now in
    let g = c.args.line.now.goal.now in
    let ps = c.args.line.now.proofs.now in
    let w = c.args.line.now.witness.now in
    let problem = c.args.problem.now in
    let all = dominance problem w in
    let later = none_risen w 1 problem.costs ++ (has_fallen w problem ∷ []) in
    let p = err_from_is_err_and c.from_residual.result c.from_residual.ensures.1 in
    rw (p.1, p.2) (decided_fault s g ps (touched_hold w (numbered 1 problem.rows)) later all (decides_all s g ps all) c.in_err-judge_rows.field-0.0 c.in_err-judge_rows.ensures.verdict)

pub returns-in_err-judge_objectives-clause-verdict : goal.returns-in_err-judge_objectives-clause-verdict
returns-in_err-judge_objectives-clause-verdict c =
    let s = c.args.reached.now in
    let g = c.args.line.now.goal.now in
    let ps = c.args.line.now.proofs.now in
    let w = c.args.line.now.witness.now in
    let problem = c.args.problem.now in
    let all = dominance problem w in
    let costs = none_risen w 1 problem.costs in
    let last = has_fallen w problem ∷ [] in
    let rest = decides_more s g ps (touched_hold w (numbered 1 problem.rows)) (costs ++ last) all (decides_all s g ps all) c.in_ok-judge_rows.ensures.verdict in
    let p = err_from_is_err_and c.from_residual-in_err-judge_objectives.result c.from_residual-in_err-judge_objectives.ensures.1 in
    rw (p.1, p.2) (decided_fault s g ps costs last all rest c.in_err-judge_objectives.field-0.0 c.in_err-judge_objectives.ensures.verdict)

pub returns-clause-verdict : goal.returns-clause-verdict
returns-clause-verdict c =
    let s = c.args.reached.now in
    let g = c.args.line.now.goal.now in
    let ps = c.args.line.now.proofs.now in
    let w = c.args.line.now.witness.now in
    let problem = c.args.problem.now in
    let all = dominance problem w in
    let costs = none_risen w 1 problem.costs in
    let last = has_fallen w problem in
    let rest = decides_more s g ps (touched_hold w (numbered 1 problem.rows)) (costs ++ (last ∷ [])) all (decides_all s g ps all) c.in_ok-judge_rows.ensures.verdict in
    let final = decides_more s g ps costs (last ∷ []) all rest c.in_ok-judge_objectives.ensures.verdict in
    decided s g ps (last ∷ []) all final c.judge_goal.result (one_verdict s g ps last c.judge_goal.result
    (goal_verdict s g ps last c.in_ok-fallen.fallen (λ (over : 2 ^ 100 < 0). omega arith) c.in_ok-fallen.ensures.goal c.judge_goal.result c.judge_goal.ensures.verdict))
