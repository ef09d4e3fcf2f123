use Rattle.std.proofs.Common.{refl}
use Rattle.clause_prop.specs.Steps.{TrailValue, cut}
use Rattle.cdcl_state.proofs.InStep.{changed}
use Rattle.cdcl_state.proofs.search.Search.cut.Goals as goal

pub invariant_of-self : goal.invariant_of-self
invariant_of-self g c =
    let s = c.self.inside in
    let is = c.self.invariant in
    changed _ (λ (u : TrailValue). g.P.Propagator.in_step c.shrinking.new.self s.store u) s.walk s.order c.put_back.new.order s.store s.store s.trail (cut s.trail c.args.keep) c.cut.new.self c.cut.ensures refl is is.lines
    (c.cut_keeps_search.ensures s.store s.trail c.args.keep is.trail) c.shrinking.ensures c.put_back.ensures
