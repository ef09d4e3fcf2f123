use Rattle.std.proofs.Common.{subst, sym}
use Rattle.proof_laws.specs.State.{StateValue, Fits}
use Rattle.proof_rules.proofs.IndexKept.{index_kept_on}
use Rattle.proof_rules.proofs.TakingUp.{fits_after}
use Rattle.proof_rules.proofs.proof_state.ProofState.step.Goals as goal

pub returns-clause-fits : goal.returns-clause-fits
returns-clause-fits c =
    let fits = subst (λ (s : StateValue). Fits c.args.problem.now s) (sym c.self.view_is) c.requires.fits in
    fits_after c.args.problem.now c.self.inside.reached c.args.line.now c.take_up.new.reached c.vars-vars.ensures.problem c.in_ok-judge_common.ensures.state fits c.requires.formed c.in_ok-take_up.ensures.next

pub invariant_of-self-2 : goal.invariant_of-self-2
invariant_of-self-2 c = (
  c.take_up.ensures.variables,
  index_kept_on c.args.problem.now c.self.inside.reached c.args.line.now c.take_up.new.reached c.judge_rule.new.room.index.count c.judge_rule.new.room.index.entries c.take_up.result c.take_up.ensures.next c.take_up.ensures.same c.judge_rule.ensures.index,
)
