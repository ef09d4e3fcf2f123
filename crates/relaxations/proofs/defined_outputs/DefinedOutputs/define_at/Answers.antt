use Rattle.sum_outputs.proofs.LaterStates.{ready_later, recorded_after}
use Rattle.relaxations.proofs.Recordings.{reached_variables}
use Rattle.relaxations.proofs.defined_outputs.DefinedOutputs.define_at.Goals as goal

pub define-requires-clause-variables : goal.define-requires-clause-variables
define-requires-clause-variables g c =
    let a = let R = g.R.Recorder in R.seen c.args.rec.now in
    reached_variables a c.args.row.now.terms c.terms.result.now c.terms.ensures.value c.requires.variables

pub add-requires : goal.add-requires
add-requires g c =
    let R = g.R.Recorder in
    record { ready = ready_later (R.seen c.args.rec.now) (R.seen c.define.new.rec) c.requires.ready c.in_ok-output.ensures.recorded.continues c.in_ok-output.ensures.recorded.whole }

pub returns : goal.returns
returns g c =
    let R = g.R.Recorder in
    record {
      recorded = recorded_after (R.seen c.args.rec.now) (R.seen c.define.new.rec) (R.seen c.add.new.rec) c.add.result
          c.in_ok-output.ensures.recorded.continues c.add.ensures.recorded;
    }
