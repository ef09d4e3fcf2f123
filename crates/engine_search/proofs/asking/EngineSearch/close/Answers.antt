use Rattle.recording.proofs.LinesOfKind.{refused_none}
use Rattle.oracle.specs.Solving.{IsDerived}
use Rattle.engine_search.proofs.asking.EngineSearch.close.Goals as goal

pub returns-in_err-judge-clause-added : goal.returns-in_err-judge-clause-added
returns-in_err-judge-clause-added g c =
    refused_none IsDerived (g.R.Recorder.seen c.args.rec.now) c.in_err-judge.field-0.0 c.from_residual.result c.in_err-judge.ensures.fault
    c.from_residual.ensures.1
