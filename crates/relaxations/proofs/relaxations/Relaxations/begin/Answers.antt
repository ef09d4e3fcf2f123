-- Without relaxations nothing is done.
use Rattle.search_base.proofs.Turning.{goes_again}
use Rattle.relaxations.proofs.relaxations.Relaxations.begin.Goals as goal

pub returns-in-None-clause-goes_on : goal.returns-in-None-clause-goes_on
returns-in-None-clause-goes_on g c = let R = g.O.Recorder in goes_again (R.seen c.args.oracle.now)
