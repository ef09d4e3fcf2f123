-- What was begun, and turns after it.
use Rattle.search_base.proofs.Turning.{goes_twice}
use Rattle.search_base.proofs.running.run_search.Goals as goal

pub returns-in-None-clause-goes_on : goal.returns-in-None-clause-goes_on
returns-in-None-clause-goes_on g c =
    let R = g.O.Recorder in
    let a = R.seen c.args.oracle.now in
    let b = R.seen c.begin.new._oracle in
    let d = R.seen c.run_turns.new.oracle in
    goes_twice a b d c.in_ok-id.ensures.goes_on c.run_turns.ensures.goes_on
