use Rattle.sum_outputs.proofs.LaterStates.{continues_again}
use Rattle.linear_lines.proofs.Answering.{memory_handed}
use Rattle.relaxations.proofs.RowTerms.{made_fits}
use Rattle.relaxations.proofs.row_totalizers.output_of.Goals as goal

pub returns-in_err-sum : goal.returns-in_err-sum
returns-in_err-sum g c =
    let a = let R = g.R.Recorder in R.seen c.args.rec.now in
    memory_handed a a c.in_err-sum.field-0.0 c.from_residual.result (continues_again a)
    c.in_err-sum.ensures.fault c.from_residual.ensures.1

pub output-requires-clause-fits : goal.output-requires-clause-fits
output-requires-clause-fits g c =
    let a = let R = g.R.Recorder in R.seen c.args.rec.now in
    made_fits a c.args.terms.now c.in_ok-sum.sum c.build.result c.in_ok-sum.ensures.ok c.build.ensures.fits c.requires.variables
