use Rattle.command_solve.specs.Words.{asked}
use Rattle.command_solve.proofs.SolveEnds.{search_listed, search_stopped}
use Rattle.command_solve.proofs.Solve.search_by.Goals as goal

pub returns-in-Err : goal.returns-in-Err
returns-in-Err g c =
    let w = g.H.Shelf.world in
    let e = c.in-Err.ensures in
    rw c.from.ensures
    (record {
      answered = search_stopped (asked c.args.self.now) c.args.inst.now c.args.problem.now (w c.args.shelf.now) (w c.search_with_log.new.shelf) c.in-Err.fault c.requires.problem e.stopped e.said e.later;
      warned = e.warned;
    })

pub returns-in-Ok : goal.returns-in-Ok
returns-in-Ok g c =
    let w = g.H.Shelf.world in
    let e = c.in-Ok.ensures in
    search_listed (asked c.args.self.now) c.args.inst.now c.args.problem.now (w c.args.shelf.now) (w c.search_with_log.new.shelf) c.requires.problem c.requires.limits c.in-Ok.found e.found e.said _ _ e.warned e.later c.write_found.ensures
