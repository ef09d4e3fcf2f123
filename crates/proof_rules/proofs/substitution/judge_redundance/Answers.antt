use Rattle.std.proofs.Common.{◌≡◌, List, [], ◌∷◌, ◌++◌, length, Ok, Err, None, subst}
use Rattle.std.proofs.lemmas.Result.{err_from_is_err_and}
use Rattle.std.specs.FinMap.{entries}
use Rattle.pb_lin.specs.Constraint.{ConstraintValue}
use Rattle.pb_lin.specs.Problem.{ProblemValue}
use Rattle.pb_lin.specs.Substitution.{Images}
use Rattle.proof_laws.specs.State.{StateValue, IsState, Fits, numbered}
use Rattle.proof_laws.specs.Substituted.{Requirement, holds_after, none_risen, touched_hold, redundance}
use Rattle.proof_laws.specs.declared.goal.Goal.{Goal}
use Rattle.proof_laws.specs.declared.goal.Goal.TheVariants.{Itself}
use Rattle.proof_laws.specs.declared.goal.GoalProof.{GoalProof}
use Rattle.proof_laws.specs.Refusal.{IsFirstGoalFault}
use Rattle.proof_rules.specs.Verdict.{IsVerdict, above}
use Rattle.proof_rules.proofs.FirstFaults.{RestDecides, decides_all, decides_more, decided, decided_fault, one_verdict}
use Rattle.proof_rules.proofs.TouchedRows.{redundance_parts}
use Rattle.proof_rules.proofs.substitution.judge_redundance.Goals as goal

-- the constraint itself and the objectives, which come last
abbrev last_of : ProblemValue → Images → ConstraintValue → List Requirement
last_of p w g = holds_after w Itself g ∷ none_risen w 1 p.costs

-- the lines that are no rows
abbrev lines_of : ProblemValue → StateValue → Images → List Requirement
lines_of p s w = touched_hold w (above (length p.rows) (entries s.live))

module _ (p : ProblemValue) (s : StateValue) (w : Images) (g : ConstraintValue) (ps : List (Goal × GoalProof)) (state : IsState s) (fits : Fits p s) where
  -- first those of the rows, then those of the other lines
  rows_first : RestDecides s g ps (touched_hold w (numbered 1 p.rows) ++ (lines_of p s w ++ last_of p w g)) (redundance p s w g)
  rows_first = subst (λ (qs : List Requirement). RestDecides s g ps qs (redundance p s w g)) (redundance_parts p s w g state fits) (decides_all s g ps (redundance p s w g))

  after_rows : IsFirstGoalFault s g ps (touched_hold w (numbered 1 p.rows)) None → RestDecides s g ps (lines_of p s w ++ last_of p w g) (redundance p s w g)
  after_rows none = decides_more s g ps (touched_hold w (numbered 1 p.rows)) (lines_of p s w ++ last_of p w g) (redundance p s w g) rows_first none

  after_lines : (rows : List ConstraintValue) → rows ≡ p.rows → IsFirstGoalFault s g ps (touched_hold w (numbered 1 p.rows)) None → IsFirstGoalFault s g ps (touched_hold w (above (length rows) (entries s.live))) None → RestDecides s g ps (last_of p w g) (redundance p s w g)
  after_lines rows same none none_above =
      decides_more s g ps (lines_of p s w) (last_of p w g) (redundance p s w g) (after_rows none)
      (subst (λ (cs : List ConstraintValue). IsFirstGoalFault s g ps (touched_hold w (above (length cs) (entries s.live))) None) same none_above)

pub returns-in_err-judge_rows-clause-verdict : goal.returns-in_err-judge_rows-clause-verdict
returns-in_err-judge_rows-clause-verdict c =
    let s = c.args.reached.now in
    let g = c.args.line.now.goal.now in
    let ps = c.args.line.now.proofs.now in
    let w = c.args.line.now.witness.now in
    let problem = c.args.problem.now in
    let state : IsState s = subst IsState c.reached.view_is c.reached.invariant in
    let first = rows_first problem s w g ps state c.requires.fits in
    let p = err_from_is_err_and c.from_residual.result c.from_residual.ensures.1 in
    rw (p.1, p.2) (decided_fault s g ps (touched_hold w (numbered 1 problem.rows)) (lines_of problem s w ++ last_of problem w g) (redundance problem s w g) first c.in_err-judge_rows.field-0.0 c.in_err-judge_rows.ensures.verdict)

pub returns-in_err-judge_lines_above-clause-verdict : goal.returns-in_err-judge_lines_above-clause-verdict
returns-in_err-judge_lines_above-clause-verdict c =
    let s = c.args.reached.now in
    let g = c.args.line.now.goal.now in
    let ps = c.args.line.now.proofs.now in
    let w = c.args.line.now.witness.now in
    let problem = c.args.problem.now in
    let state : IsState s = subst IsState c.reached.view_is c.reached.invariant in
    let later = after_rows problem s w g ps state c.requires.fits c.in_ok-judge_rows.ensures.verdict in
    let e = c.in_err-judge_lines_above.field-0.0 in
    let fault = subst (λ (cs : List ConstraintValue). IsVerdict {T = Unit {0}} (IsFirstGoalFault s g ps (touched_hold w (above (length cs) (entries s.live)))) (Err e)) c.rows.ensures c.in_err-judge_lines_above.ensures.verdict in
    let p = err_from_is_err_and c.from_residual-in_err-judge_lines_above.result c.from_residual-in_err-judge_lines_above.ensures.1 in
    rw (p.1, p.2) (decided_fault s g ps (lines_of problem s w) (last_of problem w g) (redundance problem s w g) later e fault)

pub returns-in_err-judge_after-clause-verdict : goal.returns-in_err-judge_after-clause-verdict
returns-in_err-judge_after-clause-verdict c =
    let s = c.args.reached.now in
    let g = c.args.line.now.goal.now in
    let ps = c.args.line.now.proofs.now in
    let w = c.args.line.now.witness.now in
    let problem = c.args.problem.now in
    let state : IsState s = subst IsState c.reached.view_is c.reached.invariant in
    let own = holds_after w Itself g in
    let last = after_lines problem s w g ps state c.requires.fits c.rows.result.now c.rows.ensures c.in_ok-judge_rows.ensures.verdict c.in_ok-judge_lines_above.ensures.verdict in
    let e = c.in_err-judge_after.field-0.0 in
    let p = err_from_is_err_and c.from_residual-in_err-judge_after.result c.from_residual-in_err-judge_after.ensures.1 in
    rw (p.1, p.2) (decided_fault s g ps (own ∷ []) (none_risen w 1 problem.costs) (redundance problem s w g) last e (one_verdict s g ps own (Err e) c.in_err-judge_after.ensures.verdict))

pub returns-clause-verdict : goal.returns-clause-verdict
returns-clause-verdict c =
    let s = c.args.reached.now in
    let g = c.args.line.now.goal.now in
    let ps = c.args.line.now.proofs.now in
    let w = c.args.line.now.witness.now in
    let problem = c.args.problem.now in
    let all = redundance problem s w g in
    let state : IsState s = subst IsState c.reached.view_is c.reached.invariant in
    let own = holds_after w Itself g in
    let costs = none_risen w 1 problem.costs in
    let last = after_lines problem s w g ps state c.requires.fits c.rows.result.now c.rows.ensures c.in_ok-judge_rows.ensures.verdict c.in_ok-judge_lines_above.ensures.verdict in
    let after_own = decides_more s g ps (own ∷ []) costs all last (one_verdict s g ps own (Ok tt) c.in_ok-judge_after.ensures.verdict) in
    decided s g ps costs all after_own c.judge_objectives.result c.judge_objectives.ensures.verdict
