use Rattle.sum_outputs.proofs.LaterStates.{continues_again, recorded_ok}
use Rattle.linear_lines.proofs.Answering.{memory_handed}
use Rattle.relaxations.proofs.defined_outputs.limit_line.Goals as goal

pub returns-then-divisor-le1 : goal.returns-then-divisor-le1
returns-then-divisor-le1 g c =
    let a = let R = g.R.Recorder in R.seen c.args.rec.now in
    record { recorded = recorded_ok a a c.args.upper (continues_again a) c.requires.ready.whole }

pub returns-in_err-tokens : goal.returns-in_err-tokens
returns-in_err-tokens g c =
    let a = let R = g.R.Recorder in R.seen c.args.rec.now in
    record {
      recorded = memory_handed a a c.in_err-tokens.field-0.0 c.from_residual.result (continues_again a)
          c.in_err-tokens.ensures.fault c.from_residual.ensures.1;
    }
