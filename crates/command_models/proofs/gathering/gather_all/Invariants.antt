use Rattle.std.proofs.Common.{◌≡◌, take}
use Rattle.scut_base.specs.Faults.{NoneFell}
use Rattle.command_models.specs.Gathering.{AreGathered}
use Rattle.command_models.proofs.gathering.gather_all.Given as goal

abbrev pub invariant-loop-at : goal.invariant-loop-at
invariant-loop-at g l =
    let world = g.H.Shelf.world in
    record {
      gathered : AreGathered (world l.fn.shelf).files (world l.shelf).files l.request l.inst l.problem (take l.at l.entries) l.all;
      said : (world l.shelf).said ≡ (world l.fn.shelf).said;
      warned : (world l.shelf).warned ≡ (world l.fn.shelf).warned;
      later : NoneFell (world l.fn.shelf).faults (world l.shelf).faults;
    }
