use Rattle.std.proofs.Common.{◌∙◌, ap, refl, sym, subst, [], List}
use Rattle.scut_base.specs.Literal.{Literal}
use Rattle.proof_laws.specs.Steps.{clause}
use Rattle.oracle.specs.Solving.{IsClauseAgainst}
use Rattle.cdcl_core.proofs.Blaming.{clause_against}
use Rattle.cdcl_core.proofs.Working.{implies_unchanged, steps_none}
use Rattle.cdcl_core.proofs.solver.Solver.refute.Goals as goal

pub returns-in_err-hints-clause-steps : goal.returns-in_err-hints-clause-steps
returns-in_err-hints-clause-steps g c = steps_none g.R.Recorder.seen _ _ _ c.self.view_is refl refl refl c.requires.working

pub returns-in_err-hints-clause-implied : goal.returns-in_err-hints-clause-implied
returns-in_err-hints-clause-implied g c = implies_unchanged g.R.Recorder.seen _ _ _ _ c.self.view_is refl
