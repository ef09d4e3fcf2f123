use Rattle.std.proofs.Common.{◌+◌, ◌<◌, ◌^◌, List, [], ◌∷◌, drop, subst, ◌∙◌, Ok, Err, arith}
use Rattle.std.proofs.lemmas.Result.{err_from_is_err_and}
use Rattle.pb_lin.specs.CostRow.{CostRowValue}
use Rattle.proof_laws.specs.Substituted.{Requirement, not_risen, none_risen}
use Rattle.proof_laws.specs.Refusal.{IsFirstGoalFault}
use Rattle.proof_rules.specs.Verdict.{IsVerdict}
use Rattle.proof_rules.proofs.FirstFaults.{RestDecides, decides_more, decided_fault, one_verdict}
use Rattle.proof_rules.proofs.GoalFaults.{goal_verdict}
use Rattle.proof_rules.proofs.RequirementLists.{objectives_more}
use Rattle.proof_rules.proofs.Untouched.{no_images, objectives_kept}
use Rattle.proof_rules.proofs.substitution.judge_objectives.Goals as goal

pub returns-in_err-judge_goal-clause-verdict : goal.returns-in_err-judge_goal-clause-verdict
returns-in_err-judge_goal-clause-verdict c =
    let s = c.args.reached.now in
    let g = c.args.line.now.goal.now in
    let ps = c.args.line.now.proofs.now in
    let w = c.args.line.now.witness.now in
    let rows = c.costs-rows.result.now in
    let at = c.loop-at.at in
    let row = c.index-rows-at.result in
    let q = not_risen w (at + 1) row in
    let all = none_risen w 1 rows in
    let later = none_risen w ((at + 1) + 1) (drop (at + 1) rows) in
    let rest = subst (λ (qs : List Requirement). RestDecides s g ps qs all) (objectives_more w rows at row c.loop-at-test.true c.index-rows-at.is) c.loop-at.invariant.rest in
    let e = c.in_err-judge_goal.field-0.0 in
    let own = one_verdict s g ps q (Err e) (goal_verdict s g ps q c.in_ok-goal.goal (λ (over : 2 ^ 100 < 0). omega arith) (c.in_ok-goal.ensures.goal (at + 1)) (Err e) c.in_err-judge_goal.ensures.verdict) in
    let fault = decided_fault s g ps (q ∷ []) later all rest e own in
    let p = err_from_is_err_and c.from_residual-in_err-judge_goal.result c.from_residual-in_err-judge_goal.ensures.1 in
    rw (p.1, p.2) (subst (λ (rs : List CostRowValue). IsVerdict {T = Unit {0}} (IsFirstGoalFault s g ps (none_risen w 1 rs)) (Err c.in_err-judge_goal.field-0.0)) c.costs-rows.ensures fault)

pub loop-at-preserved : goal.loop-at-preserved
loop-at-preserved c =
    let s = c.args.reached.now in
    let g = c.args.line.now.goal.now in
    let ps = c.args.line.now.proofs.now in
    let w = c.args.line.now.witness.now in
    let rows = c.costs-rows.result.now in
    let at = c.loop-at.at in
    let row = c.index-rows-at.result in
    let q = not_risen w (at + 1) row in
    let all = none_risen w 1 rows in
    let later = none_risen w ((at + 1) + 1) (drop (at + 1) rows) in
    let rest = subst (λ (qs : List Requirement). RestDecides s g ps qs all) (objectives_more w rows at row c.loop-at-test.true c.index-rows-at.is) c.loop-at.invariant.rest in
    record {
      length = c.in_ok-judge_goal.ensures.length ∙ c.loop-at.invariant.length;
      rest = decides_more s g ps (q ∷ []) later all rest (one_verdict s g ps q (Ok tt)
          (goal_verdict s g ps q c.in_ok-goal.goal (λ (over : 2 ^ 100 < 0). omega arith) (c.in_ok-goal.ensures.goal (at + 1)) (Ok tt) c.in_ok-judge_goal.ensures.verdict));
    }

pub returns-then-is_empty-clause-verdict : goal.returns-then-is_empty-clause-verdict
returns-then-is_empty-clause-verdict c =
    let none = no_images c.images.result.now c.args.line.now.witness.now c.is_empty.result c.images.ensures.value c.is_empty.ensures c.if-is_empty.true in
    objectives_kept c.args.reached.now c.args.line.now.goal.now c.args.line.now.proofs.now c.args.line.now.witness.now c.args.problem.now.costs none
