-- What the bounds added, and the clause after it.
use Rattle.std.proofs.Common.{Ok, Err, Result, List, length, ap, arith}
use Rattle.pb_lin.specs.Problem.{ProblemValue}
use Rattle.std.specs.Prelude.{OnOk}
use Rattle.std.proofs.lemmas.Slice.Zip.{AllZip-long}
use Rattle.proof_rules.specs.Recording.{Snapshot}
use Rattle.proof_rules.specs.declared.recorder.RecordFault.{RecordFault}
use Rattle.sum_outputs.specs.Adding.{IsReady, IsRecorded}
use Rattle.sum_outputs.proofs.LaterStates.{ready_later, recorded_after}
use Rattle.totalizer.specs.Keeping.{FittingStays, OwnLinesStay, ReformStays}
use Rattle.search_base.specs.CostBounds.{BoundsRow, FitBounds}
use Rattle.search_base.specs.declared.objective_bound.ObjectiveBound.{ObjectiveBound}
use Rattle.search_base.proofs.BoundRows.{bounds_later}
use Rattle.search_base.proofs.TurnLines.{own_law, totalizer_lines}
use Rattle.relaxations.proofs.ending.tie_output.Goals as goal

-- bounds that could be asked can be asked after more lines of a totalizer
fit_after : OwnLinesStay → FittingStays → ReformStays → (a b : Snapshot) (bounds : List ObjectiveBound) →
    (r : Result (Unit {0}) RecordFault) → IsReady a → FitBounds a bounds → IsRecorded a b r → OnOk r (FitBounds b bounds)
fit_after own fitting reforms a b bounds (Ok x) ready fits call =
    bounds_later own fitting reforms a b ready.state bounds call.continues.problem
    (own_law a.problem a.lines b.lines (totalizer_lines a b call.continues)) ready.reached fits
fit_after own fitting reforms a b bounds (Err f) ready fits call = tt

pub made_for-requires-clause-there : goal.made_for-requires-clause-there
made_for-requires-clause-there g c =
    let R = g.R.Recorder in
    let b = R.seen c.at_least.new.rec in
    let call = c.in_ok-at_least.ensures in
    let fits = call.fits in
    let same = ap (λ (p : ProblemValue). length p.costs) call.recorded.continues.problem in
    omega (arith, c.requires.there, AllZip-long (BoundsRow b) b.problem.costs c.at_least.new.self fits.rows)

pub made_for-requires-clause-fits : goal.made_for-requires-clause-fits
made_for-requires-clause-fits g c =
    let R = g.R.Recorder in
    let call = c.in_ok-at_least.ensures in (
      R.seen c.at_least.new.rec,
      ready_later (R.seen c.args.rec.now) (R.seen c.at_least.new.rec) c.requires.ready call.recorded.continues
          call.recorded.whole,
      call.fits,
    )

pub imply-requires : goal.imply-requires
imply-requires g c =
    let R = g.R.Recorder in
    let call = c.in_ok-at_least.ensures.recorded in
    record { ready = ready_later (R.seen c.args.rec.now) (R.seen c.at_least.new.rec) c.requires.ready call.continues call.whole }

pub returns-in-Some-clause-recorded : goal.returns-in-Some-clause-recorded
returns-in-Some-clause-recorded g c =
    let R = g.R.Recorder in
    recorded_after (R.seen c.args.rec.now) (R.seen c.at_least.new.rec) (R.seen c.imply.new.rec) c.imply.result
    c.in_ok-at_least.ensures.recorded.continues c.imply.ensures.recorded

pub returns-in-Some-clause-fits : goal.returns-in-Some-clause-fits
returns-in-Some-clause-fits g c =
    let R = g.R.Recorder in
    let a = R.seen c.args.rec.now in
    let b = R.seen c.at_least.new.rec in
    let call = c.in_ok-at_least.ensures in
    fit_after c.own_lines_stay.ensures c.fitting_stays.ensures c.reform_stays.ensures b (R.seen c.imply.new.rec)
    c.at_least.new.self c.imply.result
    (ready_later a b c.requires.ready call.recorded.continues call.recorded.whole) call.fits c.imply.ensures.recorded
