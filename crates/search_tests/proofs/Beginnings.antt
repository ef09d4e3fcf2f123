-- What is so of a proof that has no lines.
use Rattle.std.proofs.Common.{[], refl}
use Rattle.pb_lin.specs.Problem.{ProblemValue}
use Rattle.proof_laws.specs.State.{start}
use Rattle.proof_laws.specs.declared.line.Line.TheVariants.{Learn, Del, Reduce}
use Rattle.oracle.specs.Solving.{AreEarned}
use Rattle.cdcl_laws.proofs.Places.{not_empty}

module _ (p : ProblemValue) where
  pub nothing_earned : AreEarned p []
  nothing_earned = (
    0,
    record {
      replays = (start p, refl);
      learned = refl;
      new = λ before goal hints after s splits replay. absurd (not_empty before after (Learn goal hints) splits);
      kept = λ before ids after splits. absurd (not_empty before after (Del ids) splits);
      reductions = λ before ids after splits. absurd (not_empty before after (Reduce ids) splits);
    },
  )
