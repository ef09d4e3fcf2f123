use Rattle.std.proofs.Common.{◌≡◌, length, take}
use Rattle.command_base.specs.Views.{OnlyReads}
use Rattle.command_check_models.specs.Entries.{AreLogsTakenFrom, AreRightFrom}
use Rattle.command_check_models.proofs.judging.judge_entries.Given as goal

abbrev pub invariant-loop-at : goal.invariant-loop-at
invariant-loop-at g l =
    let world = g.H.Shelf.world in
    record {
      as_many : length l.reps ≡ length l.entries;
      right : AreRightFrom (world l.fn.shelf).files l.request l.inst l.problem 1 (take l.at l.entries) (take l.at l.reps);
      taken : AreLogsTakenFrom (world l.fn.shelf).files l.request 1 (take l.at l.reps);
      reads : OnlyReads (world l.fn.shelf) (world l.shelf);
    }
