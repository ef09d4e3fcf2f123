-- Nothing was done yet.
use Rattle.search_base.proofs.Turning.{goes_again}
use Rattle.relaxations.proofs.linear_boxes.LinearBoxes.begin.Goals as goal

pub returns-in_err-take_up_first-clause-goes_on : goal.returns-in_err-take_up_first-clause-goes_on
returns-in_err-take_up_first-clause-goes_on g c = let R = g.O.Recorder in goes_again (R.seen c.args.oracle.now)
