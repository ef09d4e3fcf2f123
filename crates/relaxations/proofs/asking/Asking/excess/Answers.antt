use Rattle.sum_outputs.proofs.LaterStates.{continues_again, recorded_ok}
use Rattle.relaxations.specs.declared.defined_outputs.Standing.TheVariants.{Never}
use Rattle.relaxations.proofs.asking.Asking.excess.Goals as goal

pub returns-in-None : goal.returns-in-None
returns-in-None g c =
    let a = let R = g.R.Recorder in R.seen c.args.rec.now in
    record { recorded = recorded_ok a a Never (continues_again a) c.requires.ready.whole }
