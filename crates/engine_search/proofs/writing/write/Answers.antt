use Rattle.recording.proofs.LaterStates.{adds_again}
use Rattle.oracle.specs.Solving.{IsDerived}
use Rattle.engine_search.proofs.writing.write.Goals as goal

pub returns-in_err-line-clause-adds : goal.returns-in_err-line-clause-adds
returns-in_err-line-clause-adds g c = adds_again IsDerived (g.R.Recorder.seen c.args.rec.now)

pub returns-in_default-clause-adds : goal.returns-in_default-clause-adds
returns-in_default-clause-adds g c = adds_again IsDerived (g.R.Recorder.seen c.args.rec.now)
