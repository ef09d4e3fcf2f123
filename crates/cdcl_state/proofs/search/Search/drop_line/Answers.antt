use Rattle.std.proofs.Common.{◌≢◌, refl, sym, subst}
use Rattle.std.specs.Prelude.{All}
use Rattle.pb_lin.specs.LineMap.{LineMap}
use Rattle.clause_prop.specs.Steps.{TrailValue}
use Rattle.cdcl_trail.specs.SearchTrail.{AreLines, IsSearchTrail}
use Rattle.cdcl_state.specs.Searching.{SearchValue}
use Rattle.cdcl_state.proofs.InStep.{changed, lines_dropped}
use Rattle.cdcl_state.proofs.search.Search.drop_line.Goals as goal

pub invariant_of-self : goal.invariant_of-self
invariant_of-self g c =
    let s = c.self.inside in
    let is = c.self.invariant in
    let left = c.drop_id.new.self in
    changed _ (λ (u : TrailValue). g.P.Propagator.in_step c.dropped.new.self left u) s.walk s.order s.order s.store left s.trail s.trail s.trail refl refl is
    (subst (AreLines s.trail.vars) (sym c.drop_id.ensures) (lines_dropped s.trail.vars s.store c.args.id is.lines))
    (subst (λ (m : LineMap). IsSearchTrail m s.trail) (sym c.drop_id.ensures)
    (c.dropped_line_keeps_search.ensures s.store s.trail c.args.id (subst (λ (v : SearchValue). All (λ r. r.reason ≢ c.args.id) v.trail.steps) (sym c.self.view_is) c.requires) is.trail))
    (c.dropped.ensures s.store s.trail is.in_step c.drop_id.ensures) is.order
