use Rattle.std.proofs.Common.{◌∙◌}
use Rattle.sum_outputs.proofs.LaterStates.{continues_twice, handed_err}
use Rattle.sum_outputs.proofs.OutputsLater.{way_on, way_ready, way_starts}
use Rattle.linear_lines.proofs.Answering.{memory_handed}
use Rattle.relaxations.proofs.asking.Asking.cut_at.Goals as goal

pub loop-objective-init : goal.loop-objective-init
loop-objective-init g c = let R = g.R.Recorder in way_starts (R.seen c.args.rec.now) c.requires.ready

pub at_least-requires-clause-ready : goal.at_least-requires-clause-ready
at_least-requires-clause-ready g c =
    let R = g.R.Recorder in
    way_ready (R.seen c.args.rec.now) (R.seen c.loop-objective.rec) c.requires.ready c.loop-objective.invariant

pub at_least-requires-clause-problem : goal.at_least-requires-clause-problem
at_least-requires-clause-problem g c = c.loop-objective.invariant.on.problem ∙ c.requires.problem

pub returns-in_err-standing : goal.returns-in_err-standing
returns-in_err-standing g c =
    let R = g.R.Recorder in
    record {
      recorded = handed_err (R.seen c.args.rec.now) (R.seen c.loop-objective.rec) (R.seen c.at_least.new.rec) c.in_err-standing.field-0.0 c.from_residual.result
          c.loop-objective.invariant.on c.in_err-standing.ensures.recorded c.from_residual.ensures.1;
    }

pub loop-objective-preserved : goal.loop-objective-preserved
loop-objective-preserved g c =
    let R = g.R.Recorder in
    let call = c.in_ok-standing.ensures.recorded in
    way_on (R.seen c.args.rec.now) (R.seen c.loop-objective.rec) (R.seen c.at_least.new.rec) c.loop-objective.invariant call.continues call.whole

pub returns-in_err-in_memory : goal.returns-in_err-in_memory
returns-in_err-in_memory g c =
    let R = g.R.Recorder in
    let a = R.seen c.args.rec.now in
    let b = R.seen c.loop-objective.rec in
    let d = R.seen c.at_least.new.rec in
    record {
      recorded = memory_handed a d c.in_err-in_memory.field-0.0 c.from_residual-in_err-in_memory.result
          (continues_twice a b d c.loop-objective.invariant.on c.in_ok-standing.ensures.recorded.continues)
          c.in_err-in_memory.ensures.fault c.from_residual-in_err-in_memory.ensures.1;
    }
