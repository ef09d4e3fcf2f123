use Rattle.std.proofs.Common.{refl}
use Rattle.clause_prop.specs.Steps.{TrailValue}
use Rattle.cdcl_state.proofs.InStep.{changed}
use Rattle.cdcl_state.proofs.Waits.{order_extended}
use Rattle.cdcl_state.proofs.search.Search.propagate.Goals as goal

pub invariant_of-self : goal.invariant_of-self
invariant_of-self g c =
    let s = c.self.inside in
    let is = c.self.invariant in
    let longer = c.propagate.new.trail in
    let extends = c.propagate.ensures.extends in
    changed _ (λ (u : TrailValue). g.P.Propagator.in_step c.propagate.new.self s.store u) s.walk s.order s.order s.store s.store s.trail longer longer refl extends.vars is is.lines
    (c.propagation_keeps_search.ensures s.store s.trail longer is.lines is.trail extends) c.propagate.ensures.in_step (order_extended s.order s.store s.trail longer extends is.order)
