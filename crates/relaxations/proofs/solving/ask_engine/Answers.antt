use Rattle.relaxations.proofs.Calls.{seeks_derived}
use Rattle.relaxations.proofs.solving.ask_engine.Goals as goal

pub returns-clause-seeks : goal.returns-clause-seeks
returns-clause-seeks g c =
    let R = g.O.Recorder in
    let call = c.in_ok-found.ensures.added in
    seeks_derived c.deriving_stays_good.ensures c.turn_lines_join.ensures (R.seen c.args.oracle.now) (R.seen c.ask.new.rec)
    c.args.bounds.now c.in_ok-found.found call.continues call.whole
