-- What was boosted stays so.
use Rattle.certified_front.proofs.BoostedFronts.{boosted_at_end, no_front}
use Rattle.certified_front.proofs.boosting.front_over_boosted.Goals as goal

pub returns-clause-boosted : goal.returns-clause-boosted
returns-clause-boosted g c =
    let R = g.O.Recorder in
    boosted_at_end c.boosted_stays.ensures c.args.problem.now (R.seen c.args.oracle.now) (R.seen c.front_over.new.oracle)
    c.front_over.result c.requires.boosted c.front_over.ensures.stays

pub returns-in_err-reforms-clause-front : goal.returns-in_err-reforms-clause-front
returns-in_err-reforms-clause-front g c =
    no_front c.args.inst.now c.args.problem.now (g.O.Recorder.seen c.args.oracle.now) c.in_err-reforms.field-0.0
    c.from_residual.result c.in_err-reforms.ensures.fault c.from_residual.ensures.1
