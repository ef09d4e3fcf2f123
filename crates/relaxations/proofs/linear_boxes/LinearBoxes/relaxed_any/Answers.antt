-- What isn't told of the limits is told of all that is left.
use Rattle.search_base.proofs.Turning.{goes_again}
use Rattle.relaxations.proofs.Calls.{seeks_memory}
use Rattle.relaxations.proofs.linear_boxes.LinearBoxes.relaxed_any.Goals as goal

pub returns-in_err-limits-clause-seeks : goal.returns-in_err-limits-clause-seeks
returns-in_err-limits-clause-seeks g c =
    let a = g.O.Recorder.seen c.args.oracle.now in
    seeks_memory a a c.args.bounds.now c.args.bounds.now c.from_residual.result c.from_residual.ensures.1 (goes_again a)
