use Rattle.sum_outputs.proofs.LaterStates.{continues_twice, handed_err, ready_later, recorded_ok}
use Rattle.linear_lines.proofs.Answering.{memory_handed}
use Rattle.relaxations.proofs.defined_outputs.DefinedOutputs.add.Goals as goal

pub tie-requires : goal.tie-requires
tie-requires g c =
    let R = g.R.Recorder in
    record { ready = ready_later (R.seen c.args.rec.now) (R.seen c.limit_line.new.rec) c.requires.ready c.in_ok-limit_line.ensures.recorded.continues c.in_ok-limit_line.ensures.recorded.whole }

pub returns-in_err-tie : goal.returns-in_err-tie
returns-in_err-tie g c =
    let R = g.R.Recorder in
    record {
      recorded = handed_err (R.seen c.args.rec.now) (R.seen c.limit_line.new.rec) (R.seen c.tie.new.rec) c.in_err-tie.field-0.0 c.from_residual-in_err-tie.result
          c.in_ok-limit_line.ensures.recorded.continues c.in_err-tie.ensures.recorded c.from_residual-in_err-tie.ensures.1;
    }

pub returns-in_err-in_memory : goal.returns-in_err-in_memory
returns-in_err-in_memory g c =
    let R = g.R.Recorder in
    let a = R.seen c.args.rec.now in
    let b = R.seen c.limit_line.new.rec in
    let d = R.seen c.tie.new.rec in
    record {
      recorded = memory_handed a d c.in_err-in_memory.field-0.0 c.from_residual-in_err-in_memory.result
          (continues_twice a b d c.in_ok-limit_line.ensures.recorded.continues c.in_ok-tie.ensures.recorded.continues)
          c.in_err-in_memory.ensures.fault c.from_residual-in_err-in_memory.ensures.1;
    }

pub returns : goal.returns
returns g c =
    let R = g.R.Recorder in
    let a = R.seen c.args.rec.now in
    let b = R.seen c.limit_line.new.rec in
    let d = R.seen c.tie.new.rec in
    record {
      recorded = recorded_ok a d _
          (continues_twice a b d c.in_ok-limit_line.ensures.recorded.continues c.in_ok-tie.ensures.recorded.continues)
          c.in_ok-tie.ensures.recorded.whole;
    }
