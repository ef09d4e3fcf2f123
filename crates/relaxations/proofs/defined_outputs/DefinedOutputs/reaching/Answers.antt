use Rattle.sum_outputs.proofs.LaterStates.{continues_again, recorded_ok}
use Rattle.relaxations.specs.declared.defined_outputs.Standing.TheVariants.{Always, Never}
use Rattle.relaxations.proofs.defined_outputs.DefinedOutputs.reaching.Goals as goal

pub returns-then-least-le0 : goal.returns-then-least-le0
returns-then-least-le0 g c =
    let a = let R = g.R.Recorder in R.seen c.args.rec.now in
    record { recorded = recorded_ok a a Always (continues_again a) c.requires.ready.whole }

pub returns-then-from-least : goal.returns-then-from-least
returns-then-from-least g c =
    let a = let R = g.R.Recorder in R.seen c.args.rec.now in
    record { recorded = recorded_ok a a Never (continues_again a) c.requires.ready.whole }

pub returns-in-len1 : goal.returns-in-len1
returns-in-len1 g c =
    let a = let R = g.R.Recorder in R.seen c.args.rec.now in
    record { recorded = recorded_ok a a _ (continues_again a) c.requires.ready.whole }
