use Rattle.clause_prop.proofs.Extensions.{extends_none, extends_twice}
use Rattle.clause_prop.proofs.plain.close.Goals as goal

pub loop-id-init : goal.loop-id-init
loop-id-init c = extends_none c.args.store.now c.args.trail.now

pub returns-in-Some-clause-extends : goal.returns-in-Some-clause-extends
returns-in-Some-clause-extends c = extends_twice c.args.store.now c.args.trail.now c.loop-id.trail c.pass.new.trail c.loop-id.invariant c.pass.ensures.extends

pub loop-id-preserved : goal.loop-id-preserved
loop-id-preserved c = extends_twice c.args.store.now c.args.trail.now c.loop-id.trail c.pass.new.trail c.loop-id.invariant c.pass.ensures.extends
