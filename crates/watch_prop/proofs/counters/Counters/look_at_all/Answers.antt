use Rattle.std.proofs.Common.{arith}
use Rattle.clause_prop.proofs.Extensions.{extends_none, extends_twice}
use Rattle.watch_prop.proofs.CounterLaws.{counters_closed}
use Rattle.watch_prop.proofs.counters.Counters.look_at_all.Goals as goal

pub loop-self-init : goal.loop-self-init
loop-self-init c = record { in_step = c.requires.in_step; done = c.requires.done; extends = extends_none c.args.store.now c.args.trail.now }

pub returns-in_err-id-clause-extends : goal.returns-in_err-id-clause-extends
returns-in_err-id-clause-extends c = extends_twice c.args.store.now c.args.trail.now c.loop-self.trail c.look.new.trail c.loop-self.invariant.extends c.look.ensures.extends

pub returns-in-Some-clause-extends : goal.returns-in-Some-clause-extends
returns-in-Some-clause-extends c = extends_twice c.args.store.now c.args.trail.now c.loop-self.trail c.look.new.trail c.loop-self.invariant.extends c.look.ensures.extends

pub loop-self-preserved : goal.loop-self-preserved
loop-self-preserved c = record {
  in_step = c.look.ensures.in_step;
  done = c.look.ensures.done c.loop-self.invariant.done;
  extends = extends_twice c.args.store.now c.args.trail.now c.loop-self.trail c.look.new.trail c.loop-self.invariant.extends c.look.ensures.extends;
}

pub returns-clause-closed : goal.returns-clause-closed
returns-clause-closed c = counters_closed c.loop-self.self c.args.store.now c.loop-self.trail c.loop-self.invariant.done (omega (arith, c.loop-self-test.false, c.len-in-loop-self.ensures.value)) c.loop-self.invariant.in_step
