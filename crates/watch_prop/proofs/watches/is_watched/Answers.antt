use Rattle.std.proofs.Common.{◌∙◌, ap, sym}
use Rattle.std.specs.Prelude.{nat_le}
use Rattle.std.proofs.lemmas.Bool.{false≢true}
use Rattle.watch_prop.proofs.WatchedLines.{kind_of_clause, kind_of_other}
use Rattle.watch_prop.proofs.watches.is_watched.Goals as goal

pub returns-then-is_clause : goal.returns-then-is_clause
returns-then-is_clause c =
    let is = c.is_clause.ensures.0 c.if-is_clause.true in
    ap (nat_le 2) c.len.ensures.value ∙ kind_of_clause c.args.line.now is.0 is.1

pub returns-else-is_clause : goal.returns-else-is_clause
returns-else-is_clause c = c.if-is_clause.false ∙ sym (kind_of_other c.args.line.now (λ is. absurd (false≢true (sym c.if-is_clause.false ∙ c.is_clause.ensures.1 is))))
