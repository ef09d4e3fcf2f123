use Rattle.std.proofs.Common.{sym, ap, ◌∙◌}
use Rattle.std.proofs.lemmas.Option.{slice_get_within, get_or_from_slice_get}
use Rattle.std.proofs.lemmas.List.Folds.{list_all_at, list_all_more}
use Rattle.instance.specs.Meaning.{clause_true}
use Rattle.instance.proofs.evaluate.all_clauses_true.Goals as goal

pub returns-then-not-clause_true : goal.returns-then-not-clause_true
returns-then-not-clause_true c =
    let clauses = c.args.clauses.now in
    let clause = c.clause.result.now in
    let lt = slice_get_within clauses c.loop-at.at clause c.clause.ensures in
    let is = get_or_from_slice_get clauses c.loop-at.at clause clause c.clause.ensures in
    sym (list_all_at (clause_true c.args.a.now) clauses c.loop-at.at clause lt (ap (clause_true c.args.a.now) is ∙ sym c.if-not-clause_true.ensures))

pub loop-at-preserved : goal.loop-at-preserved
loop-at-preserved c =
    let clauses = c.args.clauses.now in
    let clause = c.clause.result.now in
    let lt = slice_get_within clauses c.loop-at.at clause c.clause.ensures in
    let is = get_or_from_slice_get clauses c.loop-at.at clause clause c.clause.ensures in
    rw (list_all_more (clause_true c.args.a.now) clauses c.loop-at.at clause lt, c.loop-at.invariant, is) (sym c.if-not-clause_true.ensures)
