use Rattle.std.proofs.Common.{◌≡◌}
use Rattle.recording.specs.Recorded.{IsReady}
use Rattle.recording.specs.Adding.{Adds}
use Rattle.oracle.specs.Solving.{IsDerived}
use Rattle.engine_search.proofs.writing.write_needed.Given as goal

abbrev pub invariant-loop-record : goal.invariant-loop-record
invariant-loop-record g l = let R = g.R.Recorder in record {
  ready : IsReady (R.seen l.rec);
  adds : Adds IsDerived (R.seen l.initial.rec) (R.seen l.rec);
  judge : l.judge ≡ l.initial.judge;
}
