-- Without relaxations nothing is asked.
use Rattle.std.proofs.Common.{None}
use Rattle.relaxations.proofs.Calls.{seeks_nothing}
use Rattle.relaxations.proofs.relaxations.Relaxations.ask_linear.Goals as goal

pub returns-in-None-clause-seeks : goal.returns-in-None-clause-seeks
returns-in-None-clause-seeks g c = seeks_nothing (g.O.Recorder.seen c.args.oracle.now) c.args.bounds.now None
