use Rattle.std.proofs.Common.{◌≡◌}
use Rattle.recording.proofs.Taking.{IsTaking}
use Rattle.recording.proofs.advice.take_advice.Given as goal

abbrev pub invariant-loop-at : goal.invariant-loop-at
invariant-loop-at g l = let R = g.R.Recorder in record {
  taking : IsTaking (R.seen l.initial.rec) (R.seen l.rec) l.lines l.at;
  judge : l.judge ≡ l.initial.judge;
}
