-- Nothing is asked of the oracle.
use Rattle.search_base.proofs.Turning.{goes_again}
use Rattle.front_tests.proofs.noting.NotingSearch.turn.Goals as goal

pub returns-then-self-eq0-clause-goes_on : goal.returns-then-self-eq0-clause-goes_on
returns-then-self-eq0-clause-goes_on g c = let R = g.O.Recorder in goes_again (R.seen c.args._oracle.now)

pub returns-clause-goes_on : goal.returns-clause-goes_on
returns-clause-goes_on g c = let R = g.O.Recorder in goes_again (R.seen c.args._oracle.now)
