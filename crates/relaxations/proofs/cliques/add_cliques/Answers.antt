use Rattle.sum_outputs.proofs.LaterStates.{continues_again, handed_err}
use Rattle.sum_outputs.proofs.OutputsLater.{way_on, way_ready, way_starts}
use Rattle.linear_lines.proofs.Answering.{memory_handed}
use Rattle.relaxations.proofs.cliques.add_cliques.Goals as goal

pub returns-in_err-lines : goal.returns-in_err-lines
returns-in_err-lines g c =
    let a = let R = g.R.Recorder in R.seen c.args.rec.now in
    record {
      recorded = memory_handed a a c.in_err-lines.field-0.0 c.from_residual.result (continues_again a)
          c.in_err-lines.ensures.fault c.from_residual.ensures.1;
    }

pub loop-line-init : goal.loop-line-init
loop-line-init g c = let R = g.R.Recorder in way_starts (R.seen c.args.rec.now) c.requires.ready

pub add_line-requires : goal.add_line-requires
add_line-requires g c =
    let R = g.R.Recorder in
    record { ready = way_ready (R.seen c.args.rec.now) (R.seen c.loop-line.rec) c.requires.ready c.loop-line.invariant }

pub returns-in_err-add_line : goal.returns-in_err-add_line
returns-in_err-add_line g c =
    let R = g.R.Recorder in
    record {
      recorded = handed_err (R.seen c.args.rec.now) (R.seen c.loop-line.rec) (R.seen c.add_line.new.rec) c.in_err-add_line.field-0.0
          c.from_residual-in_err-add_line.result c.loop-line.invariant.on c.in_err-add_line.ensures.recorded
          c.from_residual-in_err-add_line.ensures.1;
    }

pub loop-line-preserved : goal.loop-line-preserved
loop-line-preserved g c =
    let R = g.R.Recorder in
    let call = c.in_ok-add_line.ensures.recorded in
    way_on (R.seen c.args.rec.now) (R.seen c.loop-line.rec) (R.seen c.add_line.new.rec) c.loop-line.invariant call.continues call.whole
