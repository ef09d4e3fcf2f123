use Rattle.std.proofs.Common.{None, Ok}
use Rattle.recording.proofs.LinesOfKind.{added_none, refused_none}
use Rattle.oracle.specs.Solving.{IsDerived}
use Rattle.engine_search.proofs.asking.EngineSearch.ask_engine.Goals as goal

pub returns-in_err-in_memory-clause-added : goal.returns-in_err-in_memory-clause-added
returns-in_err-in_memory-clause-added g c =
    refused_none IsDerived (g.R.Recorder.seen c.args.rec.now) c.in_err-in_memory.field-0.0 c.from_residual.result c.in_err-in_memory.ensures.fault
    c.from_residual.ensures.1

pub returns-in-Model-clause-added : goal.returns-in-Model-clause-added
returns-in-Model-clause-added g c =
    added_none IsDerived (g.R.Recorder.seen c.args.rec.now) c.in_memory-in-Model.result c.requires.ready.whole c.in_memory-in-Model.ensures.fault

pub returns-in-Unknown-clause-added : goal.returns-in-Unknown-clause-added
returns-in-Unknown-clause-added g c = added_none IsDerived (g.R.Recorder.seen c.args.rec.now) (Ok None) c.requires.ready.whole tt
