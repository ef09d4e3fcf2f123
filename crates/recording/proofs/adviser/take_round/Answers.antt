use Rattle.recording.specs.Advice.{IsAdvice}
use Rattle.recording.proofs.LaterStates.{adds_again}
use Rattle.recording.proofs.adviser.take_round.Goals as goal

pub returns-in_err-lines-clause-adds : goal.returns-in_err-lines-clause-adds
returns-in_err-lines-clause-adds g c = adds_again IsAdvice (g.R.Recorder.seen c.args.rec.now)

pub returns-in_default-clause-adds : goal.returns-in_default-clause-adds
returns-in_default-clause-adds g c = adds_again IsAdvice (g.R.Recorder.seen c.args.rec.now)
