use Rattle.search_base.specs.Logged.{LogsNone}
use Rattle.search_base.proofs.Turning.{AreTurns}
use Rattle.search_base.proofs.running.next_model.Given as goal

abbrev pub invariant-loop-id : goal.invariant-loop-id
invariant-loop-id g l =
    let R = g.O.Recorder in
    record {
      turns : AreTurns (R.seen l.initial.oracle)
          (R.seen l.oracle) l.bounds l.initial.board l.board;
      none : LogsNone (R.seen l.initial.oracle).problem (R.seen l.initial.oracle).lines (R.seen l.oracle).lines;
      serves : g.S.Search.serves l.search (R.seen l.oracle).problem;
    }

abbrev pub decreases-loop-id : goal.decreases-loop-id
decreases-loop-id g l = g.S.Search.own l.search
