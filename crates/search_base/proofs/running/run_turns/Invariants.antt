use Rattle.search_base.specs.CostBox.{uncovered}
use Rattle.search_base.proofs.Turning.{AreTurns}
use Rattle.search_base.proofs.running.run_turns.Given as goal

abbrev pub invariant-loop-id : goal.invariant-loop-id
invariant-loop-id g l =
    let R = g.O.Recorder in
    record {
      turns : AreTurns (R.seen l.initial.oracle)
          (R.seen l.oracle) l.bounds l.initial.board l.board;
      serves : g.S.Search.serves l.search (R.seen l.oracle).problem;
    }

abbrev pub decreases-loop-id : goal.decreases-loop-id
decreases-loop-id g l = let R = g.O.Recorder in uncovered (R.seen l.oracle).problem (R.seen l.oracle).lines
