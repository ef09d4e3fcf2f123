use Rattle.std.proofs.Common.{sym, subst}
use Rattle.pb_lin.specs.Constraint.{IsNormal}
use Rattle.hint_rup.specs.Negation.{IsNegation, negation_in}
use Rattle.hint_rup.specs.declared.negated.Negated.{Negated}
use Rattle.proof_rules.proofs.Replays.{clause_negation}
use Rattle.proof_rules.proofs.derivation.read_negated.Goals as goal

abbrev IsWhole : Negated → Type 0
IsWhole n = IsNormal (negation_in n).terms (negation_in n).degree

pub returns-in-OfClause : goal.returns-in-OfClause
returns-in-OfClause c =
    let clause = subst IsNegation c.in-OfClause.is c.requires in
    subst IsWhole (sym c.in-OfClause.is) (clause_negation c.in-OfClause.clause.now c.literals-normal.result.now c.literals-normal.ensures.normal clause.0 clause.1 c.literals-normal.ensures.value c.literals-normal.type_inv.0)
