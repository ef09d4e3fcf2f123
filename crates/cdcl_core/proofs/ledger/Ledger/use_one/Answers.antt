use Rattle.std.proofs.Common.{ℕ, List, map, ap, sym, ◌∙◌}
use Rattle.std.proofs.Math.Seq.{map-set_same}
use Rattle.std.proofs.lemmas.Option.{get_or_from_slice_get}
use Rattle.cdcl_core.specs.declared.ledger.LearnedClause.{LearnedClause}
use Rattle.cdcl_core.proofs.ledger.Ledger.use_one.Goals as goal

pub returns-in-Some : goal.returns-in-Some
returns-in-Some c =
    let same = map-set_same (λ (l : LearnedClause). l.id) c.self.inside.clauses c.in-Some.place (record { id = c.at-clause.result.now.id; distance = c.at-clause.result.now.distance; used = _ }) c.at-clause.result.now
    (ap (λ (l : LearnedClause). l.id) (sym (get_or_from_slice_get c.self.inside.clauses c.in-Some.place c.at-clause.result.now c.at-clause.result.now c.at-clause.ensures))) in
    ap (λ (ids : List ℕ). record { ids = ids; reductions = c.self.inside.reductions }) (ap (map (λ (l : LearnedClause). l.id)) c.set.ensures ∙ same) ∙ c.self.view_is
