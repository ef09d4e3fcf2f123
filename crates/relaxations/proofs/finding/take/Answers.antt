-- What is below was closed, outputs were defined, and the model was taken.
use Rattle.sum_outputs.proofs.LaterStates.{continues_twice, ready_later}
use Rattle.search_base.proofs.ModelLines.{totalizer_goes_on}
use Rattle.search_base.proofs.Turning.{goes_twice}
use Rattle.relaxations.proofs.OpeningCalls.{fault_after_lines}
use Rattle.relaxations.proofs.finding.take.Goals as goal

pub take_by_cut-requires-clause-good : goal.take_by_cut-requires-clause-good
take_by_cut-requires-clause-good g c =
    let R = g.R.Recorder in
    let b = R.seen c.close_below.new.rec in
    let closed = c.in_ok-close_below.ensures.recorded in
    let defined = c.in_ok-cut.ensures.recorded in
    let law = c.adding_stays_good_but.ensures in
    law.same b (R.seen c.cut_at.new.rec) c.args.bounds.now c.args.board.now c.args.pending.now
    (law.same (R.seen c.args.rec.now) b c.args.bounds.now c.args.board.now c.args.pending.now c.requires.good closed.continues closed.whole)
    defined.continues defined.whole

pub returns-clause-goes_on : goal.returns-clause-goes_on
returns-clause-goes_on g c =
    let R = g.R.Recorder in
    let a = R.seen c.args.rec.now in
    let b = R.seen c.close_below.new.rec in
    let d = R.seen c.cut_at.new.rec in
    goes_twice a d (R.seen c.take_by_cut.new.rec)
    (totalizer_goes_on a d (continues_twice a b d c.in_ok-close_below.ensures.recorded.continues c.in_ok-cut.ensures.recorded.continues))
    c.take_by_cut.ensures.goes_on

pub returns-clause-fault : goal.returns-clause-fault
returns-clause-fault g c =
    let R = g.R.Recorder in
    let a = R.seen c.args.rec.now in
    let b = R.seen c.close_below.new.rec in
    let d = R.seen c.cut_at.new.rec in
    fault_after_lines a d (R.seen c.take_by_cut.new.rec) c.take_by_cut.result
    (continues_twice a b d c.in_ok-close_below.ensures.recorded.continues c.in_ok-cut.ensures.recorded.continues)
    c.take_by_cut.ensures.fault

pub cut_at-requires-clause-ready : goal.cut_at-requires-clause-ready
cut_at-requires-clause-ready g c =
    let R = g.R.Recorder in
    let call = c.in_ok-close_below.ensures.recorded in
    ready_later (R.seen c.args.rec.now) (R.seen c.close_below.new.rec) c.requires.good.ready call.continues call.whole

pub returns-in_err-cut-clause-goes_on : goal.returns-in_err-cut-clause-goes_on
returns-in_err-cut-clause-goes_on g c =
    let R = g.R.Recorder in
    let a = R.seen c.args.rec.now in
    let b = R.seen c.close_below.new.rec in
    let d = R.seen c.cut_at.new.rec in
    totalizer_goes_on a d (continues_twice a b d c.in_ok-close_below.ensures.recorded.continues c.in_err-cut.ensures.recorded.continues)
