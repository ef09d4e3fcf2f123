-- One call after another, each of which may tell.
use Rattle.std.proofs.Common.{Ok}
use Rattle.search_base.proofs.Turning.{goes_twice}
use Rattle.relaxations.proofs.Calls.{seeks_else, seeks_handed, seeks_ok}
use Rattle.relaxations.proofs.LimitedCalls.{assumed_later}
use Rattle.relaxations.proofs.solving.solve.Goals as goal

pub returns-in_err-answer-2-clause-seeks : goal.returns-in_err-answer-2-clause-seeks
returns-in_err-answer-2-clause-seeks g c =
    let R = g.O.Recorder in
    let a = R.seen c.args.oracle.now in
    let m = R.seen c.solve_at_first.new.oracle in
    let b = R.seen c.ask_engine.new.oracle in
    let asked = c.args.bounds.now in
    let r = c.from_residual-in_err-answer-2.result in
    seeks_else a m b asked asked asked r c.in_ok-answer.ensures.seeks
    (seeks_handed m b asked asked r c.in_err-answer-2.field-0.0 c.from_residual-in_err-answer-2.ensures.1 c.in_err-answer-2.ensures.seeks)

pub returns-in-Some-2-clause-seeks : goal.returns-in-Some-2-clause-seeks
returns-in-Some-2-clause-seeks g c =
    let R = g.O.Recorder in
    let a = R.seen c.args.oracle.now in
    let m = R.seen c.solve_at_first.new.oracle in
    let b = R.seen c.ask_engine.new.oracle in
    let asked = c.args.bounds.now in
    let call = c.in_ok-answer-2.ensures.seeks in
    seeks_else a m b asked asked asked (Ok c.in-Some-2.answer) c.in_ok-answer.ensures.seeks
    (seeks_ok m b asked asked c.in-Some-2.answer (call.good tt) call.goes_on)

pub ask_oracle-requires-clause-assumptions : goal.ask_oracle-requires-clause-assumptions
ask_oracle-requires-clause-assumptions g c =
    let R = g.O.Recorder in
    let a = R.seen c.args.oracle.now in
    let m = R.seen c.solve_at_first.new.oracle in
    let b = R.seen c.ask_engine.new.oracle in
    let ready = c.requires.good.1.ready in
    assumed_later c.own_lines_stay.ensures c.turn_lines_keep_own.ensures a b ready.state c.args.lits.now ready.reached
    (goes_twice a m b c.in_ok-answer.ensures.seeks.goes_on c.in_ok-answer-2.ensures.seeks.goes_on) c.requires.assumptions

pub returns-clause-seeks : goal.returns-clause-seeks
returns-clause-seeks g c =
    let R = g.O.Recorder in
    let a = R.seen c.args.oracle.now in
    let m = R.seen c.solve_at_first.new.oracle in
    let b = R.seen c.ask_engine.new.oracle in
    let d = R.seen c.ask_oracle.new.oracle in
    let asked = c.args.bounds.now in
    seeks_else a m d asked asked asked c.ask_oracle.result c.in_ok-answer.ensures.seeks
    (seeks_else m b d asked asked asked c.ask_oracle.result c.in_ok-answer-2.ensures.seeks c.ask_oracle.ensures.seeks)
