use Rattle.sum_outputs.proofs.LaterStates.{ready_later, recorded_after}
use Rattle.relaxations.proofs.asking.Asking.ask_below.Goals as goal

pub ask_further-requires-clause-ready : goal.ask_further-requires-clause-ready
ask_further-requires-clause-ready g c =
    let R = g.R.Recorder in
    ready_later (R.seen c.args.rec.now) (R.seen c.limits.new.rec) c.requires.ready c.in_ok-question.ensures.recorded.continues c.in_ok-question.ensures.recorded.whole

pub returns-clause-recorded : goal.returns-clause-recorded
returns-clause-recorded g c =
    let R = g.R.Recorder in
    recorded_after (R.seen c.args.rec.now) (R.seen c.limits.new.rec) (R.seen c.ask_further.new.rec) c.ask_further.result c.in_ok-question.ensures.recorded.continues c.ask_further.ensures.recorded
