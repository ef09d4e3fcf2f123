-- Where all is spent, nothing is asked.
use Rattle.std.proofs.Common.{None}
use Rattle.search_base.proofs.Turning.{goes_again}
use Rattle.relaxations.proofs.Calls.{seeks_memory, seeks_nothing}
use Rattle.relaxations.proofs.linear_boxes.LinearBoxes.ask.Goals as goal

pub returns-in_err-take_up_first-clause-seeks : goal.returns-in_err-take_up_first-clause-seeks
returns-in_err-take_up_first-clause-seeks g c =
    let a = g.O.Recorder.seen c.args.oracle.now in
    seeks_memory a a c.args.bounds.now c.args.bounds.now c.from_residual.result c.from_residual.ensures.1 (goes_again a)

pub returns-then-is_spent-clause-seeks : goal.returns-then-is_spent-clause-seeks
returns-then-is_spent-clause-seeks g c = seeks_nothing (g.O.Recorder.seen c.args.oracle.now) c.args.bounds.now None
