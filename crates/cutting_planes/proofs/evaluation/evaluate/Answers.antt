use Rattle.std.proofs.Common.{arith}
use Rattle.pb_lin.specs.Given.{given_of}
use Rattle.cutting_planes.proofs.Truth.{run_end, value_implied}
use Rattle.cutting_planes.proofs.evaluation.evaluate.Goals as goal

pub returns-clause-value : goal.returns-clause-value
returns-clause-value c =
    run_end (given_of c.args.lines.now c.args.negated c.args.denied) c.args.tokens.now c.loop-at.stack c.loop-at.at c.into_answer.result (omega arith) c.into_answer.ensures c.loop-at.invariant.continues

pub returns-clause-implied : goal.returns-clause-implied
returns-clause-implied c = value_implied (given_of c.args.lines.now c.args.negated c.args.denied) c.args.tokens.now c.into_answer.result (returns-clause-value c)
