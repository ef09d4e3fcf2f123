use Rattle.sum_outputs.proofs.LaterStates.{continues_again, recorded_ok}
use Rattle.relaxations.proofs.defined_outputs.imply_some.Goals as goal

pub returns-in_default : goal.returns-in_default
returns-in_default g c =
    let a = let R = g.R.Recorder in R.seen c.args.rec.now in
    record { recorded = recorded_ok a a tt (continues_again a) c.requires.ready.whole }

pub returns-in_default-smaller : goal.returns-in_default-smaller
returns-in_default-smaller g c =
    let a = let R = g.R.Recorder in R.seen c.args.rec.now in
    record { recorded = recorded_ok a a tt (continues_again a) c.requires.ready.whole }
