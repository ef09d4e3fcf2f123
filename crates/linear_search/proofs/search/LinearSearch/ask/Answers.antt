use Rattle.recording.specs.Advice.{IsConservative}
use Rattle.recording.proofs.LinesOfKind.{refused_none}
use Rattle.linear_search.proofs.search.LinearSearch.ask.Goals as goal

pub returns-in_err-found-clause-recorded : goal.returns-in_err-found-clause-recorded
returns-in_err-found-clause-recorded g c =
    let a = let R = g.R.Recorder in R.seen c.args.rec.now in
    refused_none IsConservative a c.in_err-found.field-0.0 c.from_residual.result c.in_err-found.ensures.fault c.from_residual.ensures.1
