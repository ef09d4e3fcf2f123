use Rattle.sum_outputs.proofs.LaterStates.{continues_again}
use Rattle.linear_lines.proofs.Answering.{memory_handed}
use Rattle.relaxations.proofs.row_totalizers.deny.Goals as goal

pub returns-in_err-tokens : goal.returns-in_err-tokens
returns-in_err-tokens g c =
    let a = let R = g.R.Recorder in R.seen c.args.rec.now in
    memory_handed a a c.in_err-tokens.field-0.0 c.from_residual.result (continues_again a)
    c.in_err-tokens.ensures.fault c.from_residual.ensures.1
