use Rattle.std.proofs.Common.{◌≡◌, ◌≢◌, None, refl, sym, subst, arith}
use Rattle.std.specs.FinMap.{get, insert}
use Rattle.pb_lin.specs.Constraint.{UpTo}
use Rattle.pb_lin.specs.LineMap.{LineMap}
use Rattle.clause_prop.specs.Steps.{TrailValue, with_step}
use Rattle.cdcl_trail.specs.SearchTrail.{AreLines, IsSearchTrail}
use Rattle.cdcl_trail.specs.Learning.{asserted}
use Rattle.cdcl_state.specs.Searching.{SearchValue}
use Rattle.cdcl_state.proofs.InStep.{changed, lines_added}
use Rattle.cdcl_state.proofs.Learns.{Ready, clause_within, lit_within, lit_open, learned}
use Rattle.cdcl_state.proofs.Waits.{order_longer}
use Rattle.cdcl_state.proofs.search.Search.learn.Goals as goal

pub store_line-requires-clause-line : goal.store_line-requires-clause-line
store_line-requires-clause-line g c =
    let r = subst (Ready c.args.line.now c.args.level c.args.lit) (sym c.self.view_is) c.requires.ready in
    subst (UpTo c.self.inside.trail.vars) (sym r.3) (clause_within c.self.inside.store r.0 c.self.inside.trail r.1 c.args.level r.2 c.args.lit r.4)

pub push-requires-clause-within : goal.push-requires-clause-within
push-requires-clause-within g c =
    let r = subst (Ready c.args.line.now c.args.level c.args.lit) (sym c.self.view_is) c.requires.ready in
    lit_within c.self.inside.store r.0 c.self.inside.trail r.1 c.args.level r.2 c.args.lit r.4

pub push-requires-clause-open : goal.push-requires-clause-open
push-requires-clause-open g c =
    let r = subst (Ready c.args.line.now c.args.level c.args.lit) (sym c.self.view_is) c.requires.ready in
    lit_open c.self.inside.store r.0 c.self.inside.trail r.1 c.args.level r.2 c.args.lit r.4

pub invariant_of-self-2 : goal.invariant_of-self-2
invariant_of-self-2 g c =
    let s = c.self.inside in
    let is = c.self.invariant in
    let line = c.args.line.now in
    let step = asserted c.args.lit c.args.level c.args.id in
    let put = c.store_line.new in
    let stored : put.store ≡ insert s.store c.args.id line = c.in_ok-store_line.ensures.ok in
    let fresh : get s.store c.args.id ≡ None = subst (λ (v : SearchValue). get v.store c.args.id ≡ None) (sym c.self.view_is) c.requires.fresh in
    let some_id : c.args.id ≢ 0 = omega (arith, c.requires.positive) in
    let r = subst (Ready line c.args.level c.args.lit) (sym c.self.view_is) c.requires.ready in
    let ready = r.4 in
    let within = subst (UpTo s.trail.vars) (sym r.3) (clause_within s.store r.0 s.trail r.1 c.args.level r.2 c.args.lit ready) in
    let old_lines = subst (λ n. AreLines n s.store) (sym ready.vars) is.lines in
    changed _ (λ (u : TrailValue). g.P.Propagator.in_step put.propagator put.store u) s.walk s.order s.order s.store put.store s.trail (with_step s.trail step) c.push.new.self c.push.ensures refl is
    (subst (AreLines s.trail.vars) (sym stored) (lines_added s.trail.vars s.store c.args.id line c.requires.positive within c.len-terms.ensures.normal is.lines))
    (subst (λ (m : LineMap). IsSearchTrail m (with_step s.trail step)) (sym stored)
    (learned s.store r.0 s.trail ready.back.keep c.args.id r.2 line step r.3 ready.back.is
    (c.learning_keeps_search.ensures s.store r.0 r.1 c.args.level ready.back.keep c.args.id r.2 c.args.lit old_lines ready.search ready.asserting ready.back.up_to fresh some_id)))
    (c.longer_trail_keeps_step.ensures put.propagator put.store s.trail step c.store_line.ensures.in_step) (order_longer s.order s.trail step is.order)
