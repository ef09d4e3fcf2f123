use Rattle.std.proofs.Common.{◌∙◌}
use Rattle.sum_outputs.proofs.LaterStates.{ready_later, recorded_after}
use Rattle.relaxations.proofs.asking.Asking.ask.Goals as goal

pub answer-requires : goal.answer-requires
answer-requires g c =
    let R = g.R.Recorder in
    let call = c.in_ok-question.ensures.recorded in
    record {
      ready = ready_later (R.seen c.args.rec.now) (R.seen c.limits.new.rec) c.requires.ready call.continues call.whole;
      problem = call.continues.problem ∙ c.requires.problem;
    }

pub returns-clause-recorded : goal.returns-clause-recorded
returns-clause-recorded g c =
    let R = g.R.Recorder in
    recorded_after (R.seen c.args.rec.now) (R.seen c.limits.new.rec) (R.seen c.answer.new.rec) c.answer.result c.in_ok-question.ensures.recorded.continues c.answer.ensures.recorded
