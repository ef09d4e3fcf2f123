use Rattle.command_solve.proofs.ListEnds.{no_lines}
use Rattle.command_solve.proofs.listing.write_found.Goals as goal

pub returns-in-Err : goal.returns-in-Err
returns-in-Err g c = rw c.from.ensures (no_lines c.args.list.now _ _ c.args.found.now.ending (g.H.Shelf.world c.args.shelf.now))
