use Rattle.oracle.specs.Solving.{IsSolution}
use Rattle.engine_search.proofs.ReachedModels.{solution_here, state_fits}
use Rattle.engine_search.proofs.models.solution_by.Goals as goal

pub is_solution-requires : goal.is_solution-requires
is_solution-requires g c =
    let a = let R = g.R.Recorder in R.seen c.args.rec.now in
    state_fits a c.args.problem.now c.requires c.state.result.now c.state.ensures.replays c.vars-vars.ensures.problem c.state.ensures.formed

pub returns-then-is_solution : goal.returns-then-is_solution
returns-then-is_solution g c =
    let a = let R = g.R.Recorder in R.seen c.args.rec.now in
    let p = c.args.problem.now in
    let lits = c.args.lits.now in
    let s = c.state.result.now in
    let is : IsSolution p lits c.args.proposed s = c.is_solution.ensures c.if-is_solution.true in
    solution_here a p c.requires s c.state.ensures.replays lits c.args.proposed is
