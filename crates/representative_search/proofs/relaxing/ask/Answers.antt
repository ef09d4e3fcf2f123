-- Nothing was added where memory was refused.
use Rattle.sum_outputs.proofs.LaterStates.{continues_again, memory_err}
use Rattle.representative_search.proofs.relaxing.ask.Goals as goal

pub returns-in_err-search-clause-recorded : goal.returns-in_err-search-clause-recorded
returns-in_err-search-clause-recorded g c =
    let a = g.R.Recorder.seen c.args.rec.now in
    memory_err a a c.from_residual.result (continues_again a) c.from_residual.ensures.1
