use Rattle.std.proofs.Common.{subst, sym}
use Rattle.proof_laws.specs.State.{StateValue, Fits}
use Rattle.proof_rules.proofs.IndexKept.{index_kept_on}
use Rattle.proof_rules.proofs.TakingUp.{fits_on_ok}
use Rattle.proof_rules.proofs.proof_state.ProofState.advance.Goals as goal

pub returns-clause-fits : goal.returns-clause-fits
returns-clause-fits c =
    let fits = subst (λ (s : StateValue). Fits c.args.problem.now s) (sym c.self.view_is) c.requires.fits in
    fits_on_ok c.args.problem.now c.self.inside.reached c.args.line.now c.take_up.new.reached c.take_up.result c.vars-vars.ensures.problem c.in_ok-made.ensures.state fits c.requires.formed c.take_up.ensures.next

pub invariant_of-self : goal.invariant_of-self
invariant_of-self c = (
  c.take_up.ensures.variables,
  index_kept_on c.args.problem.now c.self.inside.reached c.args.line.now c.take_up.new.reached c.self.inside.room.index.count c.self.inside.room.index.entries c.take_up.result c.take_up.ensures.next c.take_up.ensures.same c.self.invariant.1,
)
