use Rattle.std.proofs.Common.{refl}
use Rattle.cdcl_trail.proofs.Ranks.{propagation_raises}
use Rattle.cdcl_core.proofs.Turns.{led_longer, progress_longer}
use Rattle.cdcl_core.proofs.Working.{implies_unchanged, steps_none, working_searched}
use Rattle.cdcl_core.proofs.solver.Solver.turn.Goals as goal

pub returns-in_err-conflict-clause-steps : goal.returns-in_err-conflict-clause-steps
returns-in_err-conflict-clause-steps g c = steps_none g.R.Recorder.seen _ _ _ c.self.view_is refl refl refl c.requires.working

pub returns-in_err-conflict-clause-implied : goal.returns-in_err-conflict-clause-implied
returns-in_err-conflict-clause-implied g c = implies_unchanged g.R.Recorder.seen _ _ _ _ c.self.view_is refl

pub learn_from-requires-clause-working : goal.learn_from-requires-clause-working
learn_from-requires-clause-working g c = working_searched g.R.Recorder.seen _ _ _ c.self.view_is refl c.propagate.ensures.store c.propagate.ensures.extends.vars c.requires.working

pub decide-requires-clause-working : goal.decide-requires-clause-working
decide-requires-clause-working g c = working_searched g.R.Recorder.seen _ _ _ c.self.view_is refl c.propagate.ensures.store c.propagate.ensures.extends.vars c.requires.working

pub decide-requires-clause-led : goal.decide-requires-clause-led
decide-requires-clause-led g c = led_longer g.R.Recorder.seen _ _ _ _ c.self.view_is c.requires.working c.propagate.ensures.extends c.requires.led

pub returns-in-Some-clause-progress : goal.returns-in-Some-clause-progress
returns-in-Some-clause-progress g c =
    let led = led_longer g.R.Recorder.seen _ _ _ c.propagate.new.self.trail c.self.view_is c.requires.working c.propagate.ensures.extends c.requires.led in
    progress_longer g.R.Recorder.seen _ _ _ _ _ _ c.self.view_is (c.learn_from.ensures.progress c.args.assumptions.now led) refl refl
    (propagation_raises _ _ _ c.propagate.ensures.extends) c.propagate.ensures.extends.vars

pub returns-in-None-clause-progress : goal.returns-in-None-clause-progress
returns-in-None-clause-progress g c =
    progress_longer g.R.Recorder.seen _ _ _ _ _ _ c.self.view_is c.decide.ensures.progress refl refl
    (propagation_raises _ _ _ c.propagate.ensures.extends) c.propagate.ensures.extends.vars
