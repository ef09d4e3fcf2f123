use Rattle.std.proofs.Common.{length, ap, refl, ◌∙◌, arith}
use Rattle.pb_lin.specs.Problem.{ProblemValue}
use Rattle.sum_outputs.proofs.LaterStates.{handed_err}
use Rattle.sum_outputs.proofs.OutputsLater.{way_on, way_ready, way_starts}
use Rattle.relaxations.proofs.ending.tie_objective.Goals as goal

pub loop-defined-init : goal.loop-defined-init
loop-defined-init g c =
    let R = g.R.Recorder in
    record { way = way_starts (R.seen c.args.rec.now) c.requires.ready; fits = c.requires.fits; reforms = refl }

pub tie_output-requires-clause-ready : goal.tie_output-requires-clause-ready
tie_output-requires-clause-ready g c =
    let R = g.R.Recorder in
    way_ready (R.seen c.args.rec.now) (R.seen c.loop-defined.rec) c.requires.ready c.loop-defined.invariant.way

pub tie_output-requires-clause-there : goal.tie_output-requires-clause-there
tie_output-requires-clause-there g c =
    let same = ap (λ (p : ProblemValue). length p.costs) c.loop-defined.invariant.way.on.problem in
    omega (arith, c.requires.there)

pub returns-in_err-tie_output-clause-recorded : goal.returns-in_err-tie_output-clause-recorded
returns-in_err-tie_output-clause-recorded g c =
    let R = g.R.Recorder in
    handed_err (R.seen c.args.rec.now) (R.seen c.loop-defined.rec) (R.seen c.tie_output.new.rec)
    c.in_err-tie_output.field-0.0 c.from_residual.result c.loop-defined.invariant.way.on
    c.in_err-tie_output.ensures.recorded c.from_residual.ensures.1

pub loop-defined-preserved : goal.loop-defined-preserved
loop-defined-preserved g c =
    let R = g.R.Recorder in
    let was = c.loop-defined.invariant in
    let call = c.in_ok-tie_output.ensures in
    record {
      way = way_on (R.seen c.args.rec.now) (R.seen c.loop-defined.rec) (R.seen c.tie_output.new.rec) was.way
          call.recorded.continues call.recorded.whole;
      fits = call.fits;
      reforms = call.reforms ∙ was.reforms;
    }
