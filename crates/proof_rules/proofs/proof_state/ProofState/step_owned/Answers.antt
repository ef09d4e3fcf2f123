use Rattle.std.proofs.Common.{subst, sym}
use Rattle.std.proofs.lemmas.Result.{err_from_is_err_and}
use Rattle.proof_laws.specs.State.{StateValue, Fits}
use Rattle.proof_rules.proofs.IndexKept.{index_kept_on}
use Rattle.proof_rules.proofs.TakingUp.{fits_after}
use Rattle.proof_rules.proofs.Verdicts.{rule_refused}
use Rattle.proof_rules.specs.Verdict.{IsReason}
use Rattle.proof_rules.proofs.proof_state.ProofState.step_owned.Goals as goal

pub returns-clause-fits : goal.returns-clause-fits
returns-clause-fits c =
    let fits = subst (λ (s : StateValue). Fits c.args.problem.now s) (sym c.self.view_is) c.requires.fits in
    fits_after c.args.problem.now c.self.inside.reached c.args.line c.take_up_owned.new.reached c.vars-vars.ensures.problem c.in_ok-judge_common.ensures.state fits c.requires.formed c.in_ok-take_up_owned.ensures.next

pub invariant_of-self-2 : goal.invariant_of-self-2
invariant_of-self-2 c = (
  c.take_up_owned.ensures.variables,
  index_kept_on c.args.problem.now c.self.inside.reached c.args.line c.take_up_owned.new.reached c.judge_rule.new.room.index.count c.judge_rule.new.room.index.entries c.take_up_owned.result c.take_up_owned.ensures.next c.take_up_owned.ensures.same c.judge_rule.ensures.index,
)

pub returns-in_err-judge_rule-clause-refused : goal.returns-in_err-judge_rule-clause-refused
returns-in_err-judge_rule-clause-refused c =
    let fault = c.in_err-judge_rule.field-0.0 in
    let p = err_from_is_err_and c.from_residual-in_err-judge_rule.result c.from_residual-in_err-judge_rule.ensures.1 in
    let by_rule = rule_refused (Unit {0}) c.args.problem.now c.self.inside.reached c.args.line fault c.in_ok-judge_common.ensures.verdict c.in_err-judge_rule.ensures.verdict in
    rw (p.1, p.2) (subst (λ (s : StateValue). IsReason c.args.problem.now s c.args.line fault) c.self.view_is by_rule)
