use Rattle.std.proofs.Common.{Ok, ap, ◌∙◌}
use Rattle.sum_outputs.proofs.LaterStates.{continues_again, recorded_ok}
use Rattle.linear_lines.proofs.Answering.{memory_handed}
use Rattle.relaxations.proofs.RowTerms.{found_upto}
use Rattle.relaxations.proofs.row_totalizers.add_totalizer.Goals as goal

pub returns-in_err-exceeded : goal.returns-in_err-exceeded
returns-in_err-exceeded g c =
    let a = let R = g.R.Recorder in R.seen c.args.rec.now in
    memory_handed a a c.in_err-exceeded.field-0.0 c.from_residual.result (continues_again a)
    c.in_err-exceeded.ensures.fault c.from_residual.ensures.1

pub add_sum-requires-clause-variables : goal.add_sum-requires-clause-variables
add_sum-requires-clause-variables g c =
    let a = let R = g.R.Recorder in R.seen c.args.rec.now in
    found_upto a.problem.vars c.args.row.now c.in-Some.exceeded c.negation_of.result
    (c.in_ok-exceeded.ensures.ok ∙ ap (λ o. Ok o) c.in-Some.is) c.negation_of.ensures c.requires.variables

pub returns-in-None : goal.returns-in-None
returns-in-None g c =
    let a = let R = g.R.Recorder in R.seen c.args.rec.now in
    recorded_ok a a tt (continues_again a) c.requires.ready.whole

pub returns-then-not-may_count : goal.returns-then-not-may_count
returns-then-not-may_count g c =
    let a = let R = g.R.Recorder in R.seen c.args.rec.now in
    recorded_ok a a tt (continues_again a) c.requires.ready.whole
