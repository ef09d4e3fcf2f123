use Rattle.std.proofs.Common.{max, sym, subst}
use Rattle.clause_prop.specs.Steps.{TrailValue}
use Rattle.cdcl_trail.specs.SearchTrail.{IsUndecided}
use Rattle.cdcl_state.specs.Searching.{SearchValue}
use Rattle.cdcl_state.proofs.InStep.{grown, max_more}
use Rattle.cdcl_state.proofs.Waits.{order_grown, order_reserved}
use Rattle.cdcl_state.proofs.search.Search.grow.Goals as goal

pub invariant_of-self-2 : goal.invariant_of-self-2
invariant_of-self-2 g c =
    let s = c.self.inside in
    let is = c.self.invariant in
    let n = c.args.vars in
    let more = max_more n s.trail.vars in
    grown _ (λ (u : TrailValue). g.P.Propagator.in_step s.propagator s.store u) n s.walk c.grow.new.self s.order c.grow-3.new.self s.store s.trail c.grow-2.new.self c.in_ok-grow-2.ensures.ok c.in_ok-grow.ensures.ok c.requires.small is
    (c.more_variables_keep_search.ensures s.store s.trail (max n s.trail.vars) is.lines more (subst (λ (v : SearchValue). IsUndecided v.trail) (sym c.self.view_is) c.requires.undecided) is.trail)
    (c.more_variables_keep_step.ensures s.propagator s.store s.trail (max n s.trail.vars) more is.in_step)
    (order_grown c.reserve.new.self c.grow-3.new.self s.trail n is.trail.steps c.grow-3.ensures.grown c.grow-3.ensures.vars (order_reserved s.order c.reserve.new.self s.trail c.reserve.ensures.same is.order))
