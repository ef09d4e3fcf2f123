-- What the relaxation tells, of the file that the recorder leaves.
use Rattle.std.proofs.Common.{rules, subst}
use Rattle.representative_search.specs.Seeking.{IsRelaxed, IsSought, LeavesLog, WhereKnown}
use Rattle.representative_search.proofs.Searches.{log_left, told_left}
use Rattle.representative_search.proofs.relaxing.relax.Goals as goal

pub returns : goal.returns
returns g c =
    let world = g.H.Shelf.world in
    let before = world c.args.shelf.now in
    let name = c.args.name.now in
    let p = c.args.problem.now in
    let r = c.relax_over-told.result in
    let last = c.relax_over-told.new.rec in
    let end = c.finish-shelf.result.now in
    let new = c.in-Ok.ensures.begun in
    let finish = c.finish-shelf.ensures in
    subst (λ h. LeavesLog (λ told. WhereKnown told (IsSought before.files (world h).files name p)) p name before (world h) r) (search rules)
    (log_left world before name _ p c.in-Ok.recorder last end (IsRelaxed p) r
    new.name new.problem new.version new.files new.shelf.said new.shelf.warned new.shelf.later finish.same finish.log finish.kept c.relax_over-told.ensures
    (λ told. WhereKnown told (IsSought before.files (world end).files name p)) (told_left before.files (world end).files name p last.lines))
