-- The solver begins the log anew, after the relaxation.
use Rattle.representative_search.proofs.BegunAnew.{seeks_anew}
use Rattle.representative_search.proofs.seeking.seek_model.Goals as goal

pub returns-in-Unknown : goal.returns-in-Unknown
returns-in-Unknown g c =
    let world = g.H.Shelf.world in
    seeks_anew c.args.name.now c.args.problem.now (world c.args.shelf.now) (world c.relax.new.shelf) (world c.search.new.shelf) c.relax.ensures.keeps c.search.result c.search.ensures
