-- The search goes on where boosting ended.
use Rattle.certified_front.proofs.BoostedFronts.{searches_after}
use Rattle.certified_front.proofs.boosting.front_boosted.Goals as goal

pub front_over_boosted-requires-clause-prepared : goal.front_over_boosted-requires-clause-prepared
front_over_boosted-requires-clause-prepared g c = c.in-Ok.ensures.prepared tt

pub returns-in-Ok-clause-front : goal.returns-in-Ok-clause-front
returns-in-Ok-clause-front g c =
    let R = g.O.Recorder in
    searches_after c.args.inst.now c.args.problem.now (R.seen c.args.oracle.now) (R.seen c.boost_all.new.oracle)
    (R.seen c.front_over_boosted.new.oracle) c.front_over_boosted.result c.in-Ok.ensures.goes_on.goes_on
    c.front_over_boosted.ensures.front
