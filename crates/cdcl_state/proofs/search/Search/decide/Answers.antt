use Rattle.std.proofs.Common.{◌≡◌, ◌<◌, ◌≤◌, None, refl, sym, subst, arith}
use Rattle.scut_base.specs.Assignment.{partial_truth}
use Rattle.clause_prop.specs.Steps.{TrailValue, partial, with_step}
use Rattle.clause_prop.specs.Propagating.{IsClosedFor}
use Rattle.cdcl_trail.specs.SearchTrail.{decision}
use Rattle.cdcl_state.specs.Searching.{SearchValue}
use Rattle.cdcl_state.proofs.InStep.{changed, level_small}
use Rattle.cdcl_state.proofs.Waits.{order_longer}
use Rattle.cdcl_state.proofs.search.Search.decide.Goals as goal

pub push_decision-requires-clause-small : goal.push_decision-requires-clause-small
push_decision-requires-clause-small g c = level_small _ c.self.inside.walk c.self.inside.order c.self.inside.store c.self.inside.trail c.self.invariant

pub invariant_of-self : goal.invariant_of-self
invariant_of-self g c =
    let s = c.self.inside in
    let is = c.self.invariant in
    let step = decision s.trail c.args.lit in
    let from_one : 0 < c.args.lit.var = omega (arith, c.var-var.ensures.value, c.var-var.ensures.from_one) in
    changed _ (λ (u : TrailValue). g.P.Propagator.in_step s.propagator s.store u) s.walk s.order s.order s.store s.store s.trail (with_step s.trail step) c.push_decision.new.trail c.push_decision.ensures refl is is.lines
    (c.decision_keeps_search.ensures s.store s.trail c.args.lit is.trail
    (subst (λ (v : SearchValue). IsClosedFor v.store v.trail) (sym c.self.view_is) c.requires.closed)
    from_one
    (subst (λ (v : SearchValue). c.args.lit.var ≤ v.trail.vars) (sym c.self.view_is) c.requires.within)
    (subst (λ (v : SearchValue). partial_truth (partial v.trail) c.args.lit ≡ None) (sym c.self.view_is) c.requires.unassigned))
    (c.longer_trail_keeps_step.ensures s.propagator s.store s.trail step is.in_step)
    (order_longer s.order s.trail step is.order)
