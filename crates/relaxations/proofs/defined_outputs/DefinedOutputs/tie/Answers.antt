use Rattle.sum_outputs.proofs.LaterStates.{ready_later, recorded_after}
use Rattle.relaxations.proofs.defined_outputs.DefinedOutputs.tie.Goals as goal

pub imply_some-requires-2 : goal.imply_some-requires-2
imply_some-requires-2 g c =
    let R = g.R.Recorder in
    record { ready = ready_later (R.seen c.args.rec.now) (R.seen c.imply_some.new.rec) c.requires.ready c.in_ok-imply_some.ensures.recorded.continues c.in_ok-imply_some.ensures.recorded.whole }

pub returns : goal.returns
returns g c =
    let R = g.R.Recorder in
    record {
      recorded = recorded_after (R.seen c.args.rec.now) (R.seen c.imply_some.new.rec) (R.seen c.imply_some-2.new.rec) c.imply_some-2.result c.in_ok-imply_some.ensures.recorded.continues c.imply_some-2.ensures.recorded;
    }
