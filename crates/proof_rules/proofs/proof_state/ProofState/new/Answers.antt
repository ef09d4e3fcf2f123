use Rattle.std.proofs.Common.{subst, sym}
use Rattle.proof_laws.specs.State.{StateValue, Fits}
use Rattle.proof_laws.proofs.NextFits.{start_fits_problem}
use Rattle.proof_rules.proofs.proof_state.ProofState.new.Goals as goal

pub returns-clause-fits : goal.returns-clause-fits
returns-clause-fits c = subst (λ (s : StateValue). Fits c.args.problem.now s) (sym c.in_ok-new.ensures) (start_fits_problem c.args.problem.now)
