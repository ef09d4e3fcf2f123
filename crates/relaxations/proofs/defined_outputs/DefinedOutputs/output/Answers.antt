use Rattle.sum_outputs.proofs.LaterStates.{continues_again, recorded_ok}
use Rattle.relaxations.proofs.defined_outputs.DefinedOutputs.output.Goals as goal

pub returns-then-defined-sum : goal.returns-then-defined-sum
returns-then-defined-sum g c =
    let a = let R = g.R.Recorder in R.seen c.args.rec.now in
    record { recorded = recorded_ok a a c.in-Some.defined.now (continues_again a) c.requires.ready.whole }
