-- Nothing was done.
use Rattle.search_base.proofs.Turning.{goes_again}
use Rattle.search_base.proofs.search.Search.begin.Goals as goal

pub returns-clause-goes_on : goal.returns-clause-goes_on
returns-clause-goes_on g c = let R = g.O.Recorder in goes_again (R.seen c.args._oracle.now)
