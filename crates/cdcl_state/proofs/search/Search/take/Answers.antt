use Rattle.std.proofs.Common.{◌≡◌, None, refl, sym, subst}
use Rattle.std.specs.FinMap.{get}
use Rattle.pb_lin.specs.Constraint.{UpTo}
use Rattle.clause_prop.specs.Steps.{TrailValue}
use Rattle.cdcl_trail.specs.SearchTrail.{IsUndecided}
use Rattle.cdcl_state.specs.Searching.{SearchValue}
use Rattle.cdcl_state.proofs.InStep.{changed, lines_stored, search_stored}
use Rattle.cdcl_state.proofs.search.Search.take.Goals as goal

pub invariant_of-self : goal.invariant_of-self
invariant_of-self g c =
    let s = c.self.inside in
    let is = c.self.invariant in
    let put = c.store_line in
    let line = c.args.line.now in
    changed _ (λ (u : TrailValue). g.P.Propagator.in_step put.new.propagator put.new.store u) s.walk s.order s.order s.store put.new.store s.trail s.trail s.trail refl refl is
    (lines_stored put.result s.store put.new.store s.trail c.args.id line put.ensures.ok put.ensures.err c.requires.positive
    (subst (λ (v : SearchValue). UpTo v.trail.vars line) (sym c.self.view_is) c.requires.variables) c.len-terms.ensures.normal is.lines)
    (search_stored put.result s.store put.new.store s.trail c.args.id line put.ensures.ok put.ensures.err is.trail
    (c.added_line_keeps_search.ensures s.store s.trail c.args.id line
    (subst (λ (v : SearchValue). IsUndecided v.trail) (sym c.self.view_is) c.requires.undecided)
    (subst (λ (v : SearchValue). get v.store c.args.id ≡ None) (sym c.self.view_is) c.requires.fresh) is.trail))
    put.ensures.in_step is.order
