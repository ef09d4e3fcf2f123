use Rattle.std.proofs.Common.{refl}
use Rattle.linear_lines.proofs.Clauses.{clause_tested}
use Rattle.linear_lines.proofs.making.clause_of.Goals as goal

pub returns-in-Some : goal.returns-in-Some
returns-in-Some c =
    let is = c.if-is_clause.ensures in
    (rw c.in-Some.is at c.in_ok-made.ensures, clause_tested c.in-Some.made (is.0 refl))
