use Rattle.clause_prop.proofs.Extensions.{extends_twice}
use Rattle.clause_prop.proofs.Passes.{passed_none, passed_more, passed_whole}
use Rattle.clause_prop.proofs.plain.pass.Goals as goal

pub loop-id-init : goal.loop-id-init
loop-id-init c = passed_none c.args.store.now c.args.trail.now

pub returns-then-visit_id-clause-extends : goal.returns-then-visit_id-clause-extends
returns-then-visit_id-clause-extends c = extends_twice c.args.store.now c.args.trail.now c.loop-id.trail c.visit_id.new.trail c.loop-id.invariant.extends c.visit_id.ensures.extends

pub loop-id-preserved : goal.loop-id-preserved
loop-id-preserved c = passed_more c.args.store.now c.args.trail.now c.loop-id.trail c.visit_id.new.trail c.loop-id.id c.in-Some.next c.loop-id.invariant c.visit_id.ensures.extends (c.visit_id.ensures.closed c.if-visit_id.false) c.in-Some.ensures

pub returns-in-None-clause-closed : goal.returns-in-None-clause-closed
returns-in-None-clause-closed c = passed_whole c.args.store.now c.args.trail.now c.loop-id.trail c.visit_id.new.trail c.loop-id.id c.loop-id.invariant c.visit_id.ensures.extends (c.visit_id.ensures.closed c.if-visit_id.false) c.in-None.ensures

pub returns-in-None-clause-extends : goal.returns-in-None-clause-extends
returns-in-None-clause-extends c = extends_twice c.args.store.now c.args.trail.now c.loop-id.trail c.visit_id.new.trail c.loop-id.invariant.extends c.visit_id.ensures.extends
