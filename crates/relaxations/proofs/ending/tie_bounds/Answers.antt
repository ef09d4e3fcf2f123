use Rattle.std.proofs.Common.{List, length, ap, refl, ◌∙◌, arith}
use Rattle.pb_lin.specs.CostRow.{CostRowValue}
use Rattle.pb_lin.specs.Problem.{ProblemValue}
use Rattle.sum_outputs.proofs.LaterStates.{handed_err}
use Rattle.sum_outputs.proofs.OutputsLater.{way_on, way_ready, way_starts}
use Rattle.relaxations.proofs.ending.tie_bounds.Goals as goal

pub loop-objective-init : goal.loop-objective-init
loop-objective-init g c =
    let R = g.R.Recorder in
    record { way = way_starts (R.seen c.args.rec.now) c.requires.ready; fits = c.requires.fits; reforms = refl }

pub tie_objective-requires-clause-ready : goal.tie_objective-requires-clause-ready
tie_objective-requires-clause-ready g c =
    let R = g.R.Recorder in
    way_ready (R.seen c.args.rec.now) (R.seen c.loop-objective.rec) c.requires.ready c.loop-objective.invariant.way

pub tie_objective-requires-clause-there : goal.tie_objective-requires-clause-there
tie_objective-requires-clause-there g c =
    let same = ap (λ (p : ProblemValue). length p.costs) c.loop-objective.invariant.way.on.problem in
    let rows = ap (λ (rs : List CostRowValue). length rs) c.costs-row-items.ensures in
    let first = ap (λ (p : ProblemValue). length p.costs) c.requires.problem in
    omega (arith, c.loop-objective-test.true)

pub returns-in_err-tie_objective-clause-recorded : goal.returns-in_err-tie_objective-clause-recorded
returns-in_err-tie_objective-clause-recorded g c =
    let R = g.R.Recorder in
    handed_err (R.seen c.args.rec.now) (R.seen c.loop-objective.rec) (R.seen c.tie_objective.new.rec)
    c.in_err-tie_objective.field-0.0 c.from_residual.result c.loop-objective.invariant.way.on
    c.in_err-tie_objective.ensures.recorded c.from_residual.ensures.1

pub loop-objective-preserved : goal.loop-objective-preserved
loop-objective-preserved g c =
    let R = g.R.Recorder in
    let was = c.loop-objective.invariant in
    let call = c.in_ok-tie_objective.ensures in
    record {
      way = way_on (R.seen c.args.rec.now) (R.seen c.loop-objective.rec) (R.seen c.tie_objective.new.rec) was.way
          call.recorded.continues call.recorded.whole;
      fits = call.fits;
      reforms = call.reforms ∙ was.reforms;
    }
