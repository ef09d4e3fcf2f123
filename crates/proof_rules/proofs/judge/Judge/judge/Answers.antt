use Rattle.std.proofs.Common.{subst, sym}
use Rattle.pb_lin.specs.Problem.{ProblemValue}
use Rattle.proof_laws.specs.State.{StateValue, Fits, IsState}
use Rattle.proof_rules.proofs.IndexKept.{index_of_rows}
use Rattle.proof_rules.proofs.judge.Judge.judge.Goals as goal

pub judge_rule-requires-clause-index : goal.judge_rule-requires-clause-index
judge_rule-requires-clause-index c =
    let reached = c.reached-reached.result.now in
    let problem = c.self.inside.problem.now in
    let state : IsState reached = c.in_ok-judge_common.ensures.state in
    let fits : Fits problem reached = subst (λ (s : StateValue). Fits problem s) (sym c.reached-reached.ensures) (subst (λ (p : ProblemValue). Fits p c.args.state.now) (sym c.self.view_is) c.requires.fits) in
    index_of_rows problem reached c.self.inside.room.index.count c.self.inside.room.index.entries state fits c.self.invariant
