use Rattle.std.proofs.Common.{◌∙◌, None}
use Rattle.sum_outputs.proofs.LaterStates.{continues_twice, handed_err, recorded_ok}
use Rattle.sum_outputs.proofs.OutputsLater.{way_on, way_ready, way_starts}
use Rattle.relaxations.proofs.asking.Asking.limits.Goals as goal

pub loop-objective-init : goal.loop-objective-init
loop-objective-init g c = let R = g.R.Recorder in way_starts (R.seen c.args.rec.now) c.requires.ready

pub may_keep-requires-clause-ready : goal.may_keep-requires-clause-ready
may_keep-requires-clause-ready g c =
    let R = g.R.Recorder in
    way_ready (R.seen c.args.rec.now) (R.seen c.loop-objective.rec) c.requires.ready c.loop-objective.invariant

pub may_keep-requires-clause-problem : goal.may_keep-requires-clause-problem
may_keep-requires-clause-problem g c = c.loop-objective.invariant.on.problem ∙ c.requires.problem

pub returns-in_err-may_keep : goal.returns-in_err-may_keep
returns-in_err-may_keep g c =
    let R = g.R.Recorder in
    record {
      recorded = handed_err (R.seen c.args.rec.now) (R.seen c.loop-objective.rec) (R.seen c.may_keep.new.rec) c.in_err-may_keep.field-0.0 c.from_residual.result
          c.loop-objective.invariant.on c.in_err-may_keep.ensures.recorded c.from_residual.ensures.1;
    }

pub loop-objective-preserved : goal.loop-objective-preserved
loop-objective-preserved g c =
    let R = g.R.Recorder in
    let call = c.in_ok-may_keep.ensures.recorded in
    way_on (R.seen c.args.rec.now) (R.seen c.loop-objective.rec) (R.seen c.may_keep.new.rec) c.loop-objective.invariant call.continues call.whole

pub returns-then-not-branch : goal.returns-then-not-branch
returns-then-not-branch g c =
    let R = g.R.Recorder in
    let a = R.seen c.args.rec.now in
    let b = R.seen c.loop-objective.rec in
    let d = R.seen c.may_keep.new.rec in
    let call = c.in_ok-may_keep.ensures.recorded in
    record { recorded = recorded_ok a d None (continues_twice a b d c.loop-objective.invariant.on call.continues) call.whole }
