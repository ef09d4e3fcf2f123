use Rattle.std.proofs.Common.{length}
use Rattle.search_base.specs.Good.{GoesOn, KeepsBoard}
use Rattle.search_base.specs.Logged.{AddsTakenLines}
use Rattle.search_base.specs.Pending.{AreOwnTerms, IsGoodBut}
use Rattle.search_base.proofs.board.Board.settle.Given as goal

abbrev pub invariant-loop-model : goal.invariant-loop-model
invariant-loop-model g l =
    let R = g.R.Recorder in
    record {
      good : IsGoodBut (R.seen l.rec) l.bounds l.self l.pending;
      own : AreOwnTerms l.bounds;
      on : GoesOn (R.seen l.initial.rec) (R.seen l.rec);
      lines : AddsTakenLines (R.seen l.initial.rec).lines (R.seen l.rec).lines;
      board : KeepsBoard l.initial.self l.self;
    }

abbrev pub decreases-loop-model : goal.decreases-loop-model
decreases-loop-model g l = length l.pending
