-- What the recorder answered, of the file that it leaves.
use Rattle.std.proofs.Common.{rules, subst}
use Rattle.representative_search.specs.Seeking.{IsFound, IsSought, LeavesLog}
use Rattle.representative_search.proofs.Searches.{known_left, log_left}
use Rattle.representative_search.proofs.seeking.search.Goals as goal

pub returns : goal.returns
returns g c =
    let world = g.H.Shelf.world in
    let before = world c.args.shelf.now in
    let name = c.args.name.now in
    let p = c.args.problem.now in
    let r = c.seek_over-sought.result in
    let end = c.finish-shelf.result.now in
    let new = c.in-Ok.ensures.begun in
    let finish = c.finish-shelf.ensures in
    subst (λ h. LeavesLog (IsSought before.files (world h).files name p) p name before (world h) r.0) (search rules)
    (log_left world before name _ p c.in-Ok.recorder r.1 end (IsFound p) r.0
    new.name new.problem new.version new.files new.shelf.said new.shelf.warned new.shelf.later finish.same finish.log finish.kept c.seek_over-sought.ensures
    (IsSought before.files (world end).files name p) (known_left before.files (world end).files name p r.1.lines))
