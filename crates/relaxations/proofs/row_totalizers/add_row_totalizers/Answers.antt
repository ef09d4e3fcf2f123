use Rattle.sum_outputs.proofs.LaterStates.{handed_err}
use Rattle.sum_outputs.proofs.OutputsLater.{way_on, way_ready, way_starts}
use Rattle.relaxations.proofs.RowTerms.{row_upto}
use Rattle.relaxations.proofs.row_totalizers.add_row_totalizers.Goals as goal

pub loop-at-init : goal.loop-at-init
loop-at-init g c = let R = g.R.Recorder in way_starts (R.seen c.args.rec.now) c.requires.ready

pub add_totalizer-requires-clause-ready : goal.add_totalizer-requires-clause-ready
add_totalizer-requires-clause-ready g c =
    let R = g.R.Recorder in way_ready (R.seen c.args.rec.now) (R.seen c.loop-at.rec) c.requires.ready c.loop-at.invariant

pub add_totalizer-requires-clause-variables : goal.add_totalizer-requires-clause-variables
add_totalizer-requires-clause-variables g c =
    let R = g.R.Recorder in
    row_upto (R.seen c.args.rec.now) (R.seen c.loop-at.rec) c.args.problem.now c.rows-row-items.result.now c.loop-at.at c.row-item.result
    c.vars-vars.ensures.problem c.rows-row-items.ensures c.requires.problem c.loop-at.invariant.on.problem c.loop-at-test.true c.row-item.is

pub returns-in_err-add_totalizer : goal.returns-in_err-add_totalizer
returns-in_err-add_totalizer g c =
    let R = g.R.Recorder in
    handed_err (R.seen c.args.rec.now) (R.seen c.loop-at.rec) (R.seen c.add_totalizer.new.rec) c.in_err-add_totalizer.field-0.0 c.from_residual.result
    c.loop-at.invariant.on c.in_err-add_totalizer.ensures c.from_residual.ensures.1

pub loop-at-preserved : goal.loop-at-preserved
loop-at-preserved g c =
    let R = g.R.Recorder in
    let call = c.in_ok-add_totalizer.ensures in
    way_on (R.seen c.args.rec.now) (R.seen c.loop-at.rec) (R.seen c.add_totalizer.new.rec) c.loop-at.invariant call.continues call.whole
