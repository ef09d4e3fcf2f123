-- A proof without lines may be boosted.
use Rattle.front_tests.proofs.Beginnings.{begins_prepared}
use Rattle.front_tests.proofs.tasks.boosted.Goals as goal

pub boost_all-requires-clause-prepared : goal.boost_all-requires-clause-prepared
boost_all-requires-clause-prepared g c =
    let R = g.O.Recorder in
    begins_prepared (R.seen c.args.oracle.now) c.args.problem.now c.no_lines_are_prepared.ensures c.vars-vars.ensures.problem
    c.requires.problem c.requires.begun c.requires.whole
