use Rattle.std.proofs.Common.{List, ap, ◌∙◌}
use Rattle.scut_base.specs.Literal.{Literal}
use Rattle.pb_lin.specs.Constraint.{ones}
use Rattle.clause_prop.proofs.StoredLines.{clause_of_literals}
use Rattle.clause_prop.proofs.stored_line.kind_of.Goals as goal

pub returns-then-is_clause : goal.returns-then-is_clause
returns-then-is_clause c =
    let is = c.is_clause.ensures.0 c.if-is_clause.true in
    ap (λ (ls : List Literal). record { terms = ones ls; degree = 1 }) (c.in_ok-lits.ensures.ok ∙ c.literals.ensures.value) ∙ clause_of_literals c.args.line.now is.0 is.1
