-- A question was asked, and what it tells was taken.
use Rattle.search_base.proofs.ModelLines.{totalizer_goes_on}
use Rattle.search_base.proofs.Turning.{goes_again, goes_twice}
use Rattle.relaxations.proofs.OpeningCalls.{fault_after_lines}
use Rattle.relaxations.proofs.finding.step.Goals as goal

pub returns-in_err-limits-clause-goes_on : goal.returns-in_err-limits-clause-goes_on
returns-in_err-limits-clause-goes_on g c = let R = g.R.Recorder in goes_again (R.seen c.args.rec.now)

pub returns-in_err-told-clause-goes_on : goal.returns-in_err-told-clause-goes_on
returns-in_err-told-clause-goes_on g c =
    let R = g.R.Recorder in
    totalizer_goes_on (R.seen c.args.rec.now) (R.seen c.ask_and_earn.new.rec) c.in_err-told.ensures.recorded.continues

pub go_on-requires-clause-good : goal.go_on-requires-clause-good
go_on-requires-clause-good g c =
    let R = g.R.Recorder in
    let call = c.in_ok-told.ensures.recorded in
    let law = c.adding_stays_good_but.ensures in
    law.same (R.seen c.args.rec.now) (R.seen c.ask_and_earn.new.rec) c.args.bounds.now c.args.board.now c.args.pending.now
    c.requires.good call.continues call.whole

pub returns-clause-goes_on : goal.returns-clause-goes_on
returns-clause-goes_on g c =
    let R = g.R.Recorder in
    let a = R.seen c.args.rec.now in
    let b = R.seen c.ask_and_earn.new.rec in
    goes_twice a b (R.seen c.go_on.new.rec) (totalizer_goes_on a b c.in_ok-told.ensures.recorded.continues)
    c.go_on.ensures.goes_on

pub returns-clause-fault : goal.returns-clause-fault
returns-clause-fault g c =
    let R = g.R.Recorder in
    fault_after_lines (R.seen c.args.rec.now) (R.seen c.ask_and_earn.new.rec) (R.seen c.go_on.new.rec) c.go_on.result
    c.in_ok-told.ensures.recorded.continues c.go_on.ensures.fault
