use Rattle.std.proofs.Common.{ap}
use Rattle.std.specs.Prelude.{Err}
use Rattle.command_solve.proofs.ListEnds.{listed, writing_stopped}
use Rattle.command_solve.proofs.listing.write_list.Goals as goal

pub returns-in-Err : goal.returns-in-Err
returns-in-Err g c =
    let w = g.H.Shelf.world in
    let e = c.in-Err.ensures in
    rw c.from.ensures
    (record {
      answered = writing_stopped c.args.list.now _ c.args.size c.args.ending (w c.args.shelf.now) (w c.write_lines.new.shelf) c.in-Err.fault e.err e.said (λ failed. e.failed (ap Err failed)) e.later;
      warned = e.warned;
    })

pub returns-in-Ok : goal.returns-in-Ok
returns-in-Ok g c =
    let w = g.H.Shelf.world in
    let e = c.in-Ok.ensures in
    listed c.args.list.now _ c.args.size c.args.ending (w c.args.shelf.now) (w c.write_lines.new.shelf) (w c.say.new.shelf) c.say.result e.ok e.said e.warned e.later (rw c.status_of.ensures at c.say.ensures)
