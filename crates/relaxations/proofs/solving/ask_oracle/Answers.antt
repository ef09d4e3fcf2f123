use Rattle.relaxations.proofs.OpeningCalls.{not_ended}
use Rattle.relaxations.proofs.Calls.{seeks_asked}
use Rattle.relaxations.proofs.solving.ask_oracle.Goals as goal

pub solve-requires-clause-unended : goal.solve-requires-clause-unended
solve-requires-clause-unended g c = not_ended (g.O.Recorder.seen c.args.oracle.now) c.requires.good.1.ready

pub returns-clause-seeks : goal.returns-clause-seeks
returns-clause-seeks g c =
    let R = g.O.Recorder in
    let call = c.solve.ensures in
    seeks_asked c.asking_stays_good.ensures c.turn_lines_join.ensures (R.seen c.args.oracle.now) (R.seen c.solve.new.self)
    c.args.bounds.now call.keeps call.lines call.within c.solve.result call.whole call.earned call.fault
