use Rattle.std.proofs.Common.{◌≢◌, length, sym, ◌∙◌, ap, subst}
use Rattle.std.specs.Prelude.{All}
use Rattle.std.specs.FinMap.{get}
use Rattle.clause_prop.specs.Steps.{cut}
use Rattle.cdcl_state.specs.Searching.{SearchValue}
use Rattle.cdcl_state.proofs.ForcedBy.{cut_past, no_reason_left, remove_none}
use Rattle.cdcl_state.proofs.search.Search.forget.Goals as goal

pub returns-in_default-clause-store : goal.returns-in_default-clause-store
returns-in_default-clause-store g c = remove_none c.args.self.now.store c.args.id (ap (λ (v : SearchValue). get v.store c.args.id) (sym c.self.view_is) ∙ c.in_default.ensures)

pub returns-in_default-clause-trail : goal.returns-in_default-clause-trail
returns-in_default-clause-trail g c = (length c.args.self.now.trail.steps, cut_past c.args.self.now.trail)

pub drop_line-requires : goal.drop_line-requires
drop_line-requires g c =
    let s = c.self.inside in
    let is = c.self.invariant in
    let after = c.cut.ensures ∙ ap (λ (v : SearchValue). record { store = v.store; trail = cut v.trail c.first_forced-keep.result }) (sym c.self.view_is) in
    subst (λ (v : SearchValue). All (λ r. r.reason ≢ c.args.id) v.trail.steps) (sym after)
    (no_reason_left s.store s.trail c.first_forced-keep.result c.args.id c.in-Some.line.now is.lines is.trail c.in-Some.ensures c.first_forced-keep.ensures.others)
