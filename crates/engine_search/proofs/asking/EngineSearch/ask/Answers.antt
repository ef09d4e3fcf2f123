use Rattle.std.proofs.Common.{None, Ok}
use Rattle.recording.proofs.LinesOfKind.{added_none, refused_none}
use Rattle.oracle.specs.Solving.{IsDerived}
use Rattle.engine_search.proofs.asking.EngineSearch.ask.Goals as goal

pub returns-in_err-engine-clause-added : goal.returns-in_err-engine-clause-added
returns-in_err-engine-clause-added g c =
    refused_none IsDerived (g.R.Recorder.seen c.args.rec.now) c.in_err-engine.field-0.0 c.from_residual.result c.in_err-engine.ensures.fault
    c.from_residual.ensures.1

pub returns-in_default-clause-added : goal.returns-in_default-clause-added
returns-in_default-clause-added g c = added_none IsDerived (g.R.Recorder.seen c.args.rec.now) (Ok None) c.requires.ready.whole tt
