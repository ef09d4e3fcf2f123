use Rattle.std.proofs.Common.{rules, subst}
use Rattle.std.specs.Prelude.{IfOk, IfErr}
use Rattle.proof_text.specs.LogParts.{IsLogStopped}
use Rattle.command_solve.specs.Logging.{IsLogged}
use Rattle.command_solve.proofs.SearchedLogs.{found_left, stopped_left}
use Rattle.command_solve.proofs.logging.search_with_log.Goals as goal

pub returns-clause-found : goal.returns-clause-found
returns-clause-found g c =
    let world = g.H.Shelf.world in
    let r = c.search_over-found.result in
    subst (λ h. IfOk r.0 (IsLogged (world c.args.shelf.now).files (world h).files c.args.inst.now c.args.problem.now c.args.log.now c.args.version c.args.limit c.args.plan)) (search rules)
    (found_left world (world c.args.shelf.now).files c.args.log.now _ c.args.problem.now c.args.version c.in-Ok.recorder r.1 c.finish-shelf.result.now c.args.inst.now c.args.limit c.args.plan r.0
    c.in-Ok.ensures.begun.name c.in-Ok.ensures.begun.problem c.in-Ok.ensures.begun.version c.in-Ok.ensures.begun.files c.finish-shelf.ensures.same c.finish-shelf.ensures.log c.finish-shelf.ensures.kept c.search_over-found.ensures)

pub returns-clause-stopped : goal.returns-clause-stopped
returns-clause-stopped g c =
    let world = g.H.Shelf.world in
    let r = c.search_over-found.result in
    subst (λ h. IfErr r.0 (λ fault. IsLogStopped fault (world c.args.shelf.now).files (world h).files c.args.problem.now c.args.log.now c.args.version (world c.args.shelf.now).faults (world h).faults)) (search rules)
    (stopped_left world (world c.args.shelf.now).files c.args.log.now _ c.args.problem.now c.args.version c.in-Ok.recorder r.1 c.finish-shelf.result.now c.args.inst.now c.args.limit c.args.plan r.0
    c.in-Ok.ensures.begun.name c.in-Ok.ensures.begun.problem c.in-Ok.ensures.begun.version c.in-Ok.ensures.begun.files c.finish-shelf.ensures.same c.finish-shelf.ensures.log c.finish-shelf.ensures.kept c.search_over-found.ensures
    (world c.args.shelf.now).faults c.in-Ok.ensures.begun.shelf.later)
