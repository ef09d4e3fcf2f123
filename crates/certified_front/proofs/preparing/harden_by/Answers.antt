-- No lines are prepared.
use Rattle.certified_front.proofs.Boards.{begins_prepared}
use Rattle.certified_front.proofs.preparing.harden_by.Goals as goal

pub returns-clause-prepared : goal.returns-clause-prepared
returns-clause-prepared g c =
    begins_prepared (g.O.Recorder.seen c.args.oracle.now) c.args.problem.now c.requires.problem c.requires.begun
    c.no_lines_are_prepared.ensures c.requires.whole c.vars-vars.ensures.problem
