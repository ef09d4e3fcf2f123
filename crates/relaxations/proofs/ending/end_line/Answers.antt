-- The oracle's call and one line more keep a state good but for some models.
use Rattle.search_base.proofs.ModelLines.{totalizer_goes_on}
use Rattle.search_base.proofs.Turning.{goes_twice}
use Rattle.search_base.proofs.TurnLines.{join_law}
use Rattle.relaxations.proofs.OpeningCalls.{asked_stays, not_ended, oracle_goes_on, spent_stays}
use Rattle.relaxations.proofs.ending.end_line.Goals as goal

pub solve-requires-clause-unended : goal.solve-requires-clause-unended
solve-requires-clause-unended g c =
    let a = let R = g.O.Recorder in R.seen c.args.oracle.now in
    let good = c.requires.good in
    not_ended a good.3.ready

pub keep-requires : goal.keep-requires
keep-requires g c =
    let R = g.O.Recorder in
    let a = R.seen c.args.oracle.now in
    let b = R.seen c.solve.new.self in
    let call = c.in-Ok-Unsat.ensures in
    let good = c.requires.good in
    let stays = asked_stays c.asking_stays_good_but.ensures a b call.keeps call.lines call.within call.whole
    (call.earned tt) good.0 good.1 good.2 good.3 in
    record { ready = stays.ready }

pub returns-in_err-id-in-Ok-Unsat-clause-goes_on : goal.returns-in_err-id-in-Ok-Unsat-clause-goes_on
returns-in_err-id-in-Ok-Unsat-clause-goes_on g c =
    let R = g.O.Recorder in
    let a = R.seen c.args.oracle.now in
    let b = R.seen c.solve.new.self in
    let d = R.seen c.keep.new.rec in
    let call = c.in-Ok-Unsat.ensures in
    goes_twice a b d (oracle_goes_on join_law a b call.keeps call.lines)
    (totalizer_goes_on b d c.in_err-id-in-Ok-Unsat.ensures.recorded.continues)

pub returns-in-Ok-Unsat-clause-goes_on : goal.returns-in-Ok-Unsat-clause-goes_on
returns-in-Ok-Unsat-clause-goes_on g c =
    let R = g.O.Recorder in
    let a = R.seen c.args.oracle.now in
    let b = R.seen c.solve.new.self in
    let d = R.seen c.keep.new.rec in
    let call = c.in-Ok-Unsat.ensures in
    goes_twice a b d (oracle_goes_on join_law a b call.keeps call.lines)
    (totalizer_goes_on b d c.in_ok-id-in-Ok-Unsat.ensures.recorded.continues)

pub returns-in-Ok-Unsat-clause-stays : goal.returns-in-Ok-Unsat-clause-stays
returns-in-Ok-Unsat-clause-stays g c bounds front pending good =
    let R = g.O.Recorder in
    let a = R.seen c.args.oracle.now in
    let b = R.seen c.solve.new.self in
    let d = R.seen c.keep.new.rec in
    let call = c.in-Ok-Unsat.ensures in
    let kept = c.in_ok-id-in-Ok-Unsat.ensures.recorded in
    let law = c.adding_stays_good_but.ensures in
    law.same b d bounds front pending
    (asked_stays c.asking_stays_good_but.ensures a b call.keeps call.lines call.within call.whole (call.earned tt) bounds
    front pending good) kept.continues kept.whole

pub returns-in-Ok-Sat-clause-stays : goal.returns-in-Ok-Sat-clause-stays
returns-in-Ok-Sat-clause-stays g c =
    let R = g.O.Recorder in
    let call = c.in-Ok-Sat.ensures in
    asked_stays c.asking_stays_good_but.ensures (R.seen c.args.oracle.now) (R.seen c.solve.new.self) call.keeps call.lines
    call.within call.whole (call.earned tt)

pub returns-in-Err-Spent-clause-stays : goal.returns-in-Err-Spent-clause-stays
returns-in-Err-Spent-clause-stays g c =
    let R = g.O.Recorder in
    let call = c.in-Err-Spent.ensures in
    let a = R.seen c.args.oracle.now in
    let b = R.seen c.solve.new.self in
    spent_stays c.asking_stays_good_but.ensures a b call.keeps call.lines call.within c.in-Err-Spent.field-0
    c.in-Err-Spent.field-0-0 c.in-Err-Spent.field-0-is call.fault call.earned
