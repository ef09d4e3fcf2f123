-- Boxes were asked twice.
use Rattle.search_base.proofs.Turning.{goes_twice}
use Rattle.relaxations.proofs.finding.ask_with_and_without.Goals as goal

pub returns-clause-goes_on : goal.returns-clause-goes_on
returns-clause-goes_on g c =
    let R = g.R.Recorder in
    goes_twice (R.seen c.args.rec.now) (R.seen c.ask_all.new.rec) (R.seen c.ask_without.new.rec)
    c.ask_all.ensures.goes_on c.ask_without.ensures.goes_on
