use Rattle.search_base.specs.Good.{GoesOn, KeepsBoard}
use Rattle.search_base.specs.Pending.{IsGoodBut}
use Rattle.relaxations.proofs.finding.ask_all.Given as goal

abbrev pub invariant-loop-question : goal.invariant-loop-question
invariant-loop-question g l =
    let R = g.R.Recorder in
    record {
      good : IsGoodBut (R.seen l.rec) l.bounds l.board l.pending;
      goes_on : GoesOn (R.seen l.initial.rec) (R.seen l.rec);
      board : KeepsBoard l.initial.board l.board;
    }
