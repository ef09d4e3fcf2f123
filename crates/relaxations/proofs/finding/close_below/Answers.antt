use Rattle.sum_outputs.proofs.LaterStates.{continues_again, recorded_ok}
use Rattle.linear_lines.proofs.Answering.{memory_handed}
use Rattle.relaxations.proofs.finding.close_below.Goals as goal

pub returns-in_default : goal.returns-in_default
returns-in_default g c =
    let a = let R = g.R.Recorder in R.seen c.args.rec.now in
    record { recorded = recorded_ok a a tt (continues_again a) c.requires.ready.whole }

pub returns-in_err-below : goal.returns-in_err-below
returns-in_err-below g c =
    let a = let R = g.R.Recorder in R.seen c.args.rec.now in
    record {
      recorded = memory_handed a a c.in_err-below.field-0.0 c.from_residual.result (continues_again a)
          c.in_err-below.ensures.fault c.from_residual.ensures.1;
    }

pub returns-in_default-2 : goal.returns-in_default-2
returns-in_default-2 g c =
    let a = let R = g.R.Recorder in R.seen c.args.rec.now in
    record { recorded = recorded_ok a a tt (continues_again a) c.requires.ready.whole }
