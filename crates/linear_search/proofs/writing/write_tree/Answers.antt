use Rattle.recording.specs.Advice.{IsConservative}
use Rattle.recording.proofs.LinesOfKind.{refused_none}
use Rattle.linear_search.proofs.writing.write_tree.Goals as goal

pub returns-in_err-lines-clause-recorded : goal.returns-in_err-lines-clause-recorded
returns-in_err-lines-clause-recorded g c =
    refused_none IsConservative (g.R.Recorder.seen c.args.rec.now) c.in_err-lines.field-0.0 c.from_residual.result
    c.in_err-lines.ensures.fault c.from_residual.ensures.1

pub returns-in_err-judge-clause-recorded : goal.returns-in_err-judge-clause-recorded
returns-in_err-judge-clause-recorded g c =
    refused_none IsConservative (g.R.Recorder.seen c.args.rec.now) c.in_err-judge.field-0.0 c.from_residual-in_err-judge.result
    c.in_err-judge.ensures.fault c.from_residual-in_err-judge.ensures.1
