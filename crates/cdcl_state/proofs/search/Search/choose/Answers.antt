use Rattle.std.proofs.Common.{length, refl, sym, ◌∙◌, subst, ap}
use Rattle.clause_prop.specs.Steps.{TrailValue, with_step}
use Rattle.clause_prop.specs.Propagating.{IsClosedFor}
use Rattle.cdcl_trail.specs.SearchTrail.{decision}
use Rattle.cdcl_state.specs.Order.{Weights}
use Rattle.cdcl_state.specs.Searching.{SearchValue}
use Rattle.cdcl_state.proofs.InStep.{changed, level_small}
use Rattle.cdcl_state.proofs.Waits.{order_decided}
use Rattle.cdcl_state.proofs.search.Search.choose.Goals as goal

pub push_decision-requires-clause-small : goal.push_decision-requires-clause-small
push_decision-requires-clause-small g c = level_small _ c.self.inside.walk c.self.inside.order c.self.inside.store c.self.inside.trail c.self.invariant

pub invariant_of-self : goal.invariant_of-self
invariant_of-self g c =
    let s = c.self.inside in
    let is = c.self.invariant in
    let lit = c.in-Some.lit in
    let step = decision s.trail lit in
    let chosen = c.in-Some.ensures.chosen in
    changed _ (λ (u : TrailValue). g.P.Propagator.in_step s.propagator s.store u) s.walk s.order c.next.new.self s.store s.store s.trail (with_step s.trail step) c.push_decision.new.trail c.push_decision.ensures refl is is.lines
    (c.decision_keeps_search.ensures s.store s.trail lit is.trail (subst (λ (v : SearchValue). IsClosedFor v.store v.trail) (sym c.self.view_is) c.requires) chosen.positive chosen.within chosen.open_lit)
    (c.longer_trail_keeps_step.ensures s.propagator s.store s.trail step is.in_step)
    (order_decided c.next.new.self s.trail step (is.order.known ∙ sym (ap (λ (w : Weights). length w.activities) c.next.ensures.weights)) chosen.positive chosen.within c.in-Some.ensures.others)
