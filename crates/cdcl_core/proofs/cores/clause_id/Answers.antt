use Rattle.std.proofs.Common.{sym, ap, ◌∙◌, Some}
use Rattle.std.proofs.lemmas.Slice.Eq.{slice_eq-Decides}
use Rattle.pb_lin.specs.Constraint.{ConstraintValue}
use Rattle.cdcl_core.proofs.HeldLines.{clause_of_literals}
use Rattle.cdcl_core.proofs.LiteralTests.{literal_decides}
use Rattle.cdcl_core.proofs.cores.clause_id.Goals as goal

pub returns-then-eq : goal.returns-then-eq
returns-then-eq g c =
    c.in-Some.ensures ∙ ap (λ (d : ConstraintValue). Some d) (clause_of_literals c.in-Some.line.now c.is_clause.result c.args.lits.now c.is_clause.ensures c.if-is_clause.true
    (sym c.literals.ensures.value ∙ (slice_eq-Decides literal_decides _ _ _ c.eq.ensures).0 c.if-eq.true))
