use Rattle.std.proofs.Common.{◌≡◌}
use Rattle.recording.specs.Recorded.{IsReady}
use Rattle.recording.specs.Adding.{Adds}
use Rattle.recording.specs.Advice.{IsAdvice}
use Rattle.recording.proofs.adviser.consult.Given as goal

abbrev pub invariant-loop : goal.invariant-loop
invariant-loop g l = let R = g.R.Recorder in record {
  ready : IsReady (R.seen l.rec);
  adds : Adds IsAdvice (R.seen l.initial.rec) (R.seen l.rec);
  judge : l.judge ≡ l.initial.judge;
}
