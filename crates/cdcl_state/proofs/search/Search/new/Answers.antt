use Rattle.std.proofs.Common.{length, ap}
use Rattle.pb_lin.specs.LineMap.{LineMap}
use Rattle.clause_prop.specs.Steps.{TrailValue}
use Rattle.cdcl_state.specs.Order.{OrderValue}
use Rattle.cdcl_state.proofs.InStep.{begun}
use Rattle.cdcl_state.proofs.search.Search.new.Goals as goal

pub invariant_of-result : goal.invariant_of-result
invariant_of-result g c = begun (λ (m : LineMap) (u : TrailValue). g.P.Propagator.in_step c.args.propagator m u) c.new-3.result c.new-4.result c.new.result c.in_ok-new.field-0 c.new.ensures c.in_ok-new.ensures
    (ap (λ (o : OrderValue). length o.activities) c.new-4.ensures) (c.empty_trail_is_search.ensures c.new.result 0) c.requires
