use Rattle.std.proofs.Common.{ℕ, refl, subst}
use Rattle.proof_laws.specs.State.{StateValue}
use Rattle.proof_laws.proofs.Replays.{replay_once}
use Rattle.oracle.specs.Solving.{AreAssumptions}
use Rattle.linear_search.proofs.asking.proposal.Goals as goal

pub returns-then-may_be_assumed : goal.returns-then-may_be_assumed
returns-then-may_be_assumed g c =
    let a = let R = g.R.Recorder in R.seen c.args.rec.now in
    record {
      reply = λ assumed s reached.
          subst (λ (t : StateValue). AreAssumptions t.vars c.args.lits) (replay_once a.problem a.lines c.state.result.now s c.state.ensures.replays reached)
          (subst (λ (n : ℕ). AreAssumptions n c.args.lits) c.vars-vars.ensures.value
          (subst (AreAssumptions c.vars-vars.result) c.as_slice.ensures (c.if-may_be_assumed.ensures refl)));
    }
