use Rattle.search_base.proofs.Turning.{goes_again}
use Rattle.relaxations.proofs.finding.ask_next.Goals as goal

pub returns-then-not-may_ask-clause-goes_on : goal.returns-then-not-may_ask-clause-goes_on
returns-then-not-may_ask-clause-goes_on g c = let R = g.R.Recorder in goes_again (R.seen c.args.rec.now)

pub returns-in-None-clause-goes_on : goal.returns-in-None-clause-goes_on
returns-in-None-clause-goes_on g c = let R = g.R.Recorder in goes_again (R.seen c.args.rec.now)
