use Rattle.std.proofs.Common.{◌≡◌, ◌≤◌, ◌-◌, length}
use Rattle.instance.specs.ParetoFront.{problem_vector}
use Rattle.representative_search.specs.Gathered.{IsPartOfSearch}
use Rattle.representative_search.specs.Seeking.{TouchesFile}
use Rattle.representative_search.proofs.FurtherModels.{AreGathered}
use Rattle.representative_search.proofs.gathering.gather.Given as goal

abbrev pub invariant-loop-alloc : goal.invariant-loop-alloc
invariant-loop-alloc g l =
    let world = g.H.Shelf.world in
    record {
      gathered : AreGathered l.inst l.vec l.models;
      few : length l.models ≤ l.most;
      keeps : TouchesFile (IsPartOfSearch l.problem (problem_vector l.inst l.vec)) l.name (world l.fn.shelf) (world l.shelf);
    }

abbrev pub decreases-loop-alloc : goal.decreases-loop-alloc
decreases-loop-alloc g l = l.most - length l.models
