use Rattle.sum_outputs.proofs.LaterStates.{continues_again, recorded_ok}
use Rattle.relaxations.specs.declared.defined_outputs.Standing.TheVariants.{Never}
use Rattle.relaxations.proofs.Recordings.{cost_upto}
use Rattle.relaxations.proofs.defined_outputs.DefinedOutputs.at_least.Goals as goal

pub returns-in_default : goal.returns-in_default
returns-in_default g c =
    let a = let R = g.R.Recorder in R.seen c.args.rec.now in
    record { recorded = recorded_ok a a Never (continues_again a) c.requires.ready.whole }

pub reaching-requires-clause-variables : goal.reaching-requires-clause-variables
reaching-requires-clause-variables g c =
    let a = let R = g.R.Recorder in R.seen c.args.rec.now in
    let item = c.in-Some.ensures.lookup in
    cost_upto a c.args.problem.now c.costs.result.now c.args.objective c.in-Some.row.now c.vars-vars.ensures.problem
    c.costs.ensures c.requires.problem item.3.0 item.1
